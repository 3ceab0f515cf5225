-- What is wrong on a line: the word, and why.
use Rattle.std.specs.Prelude.{ℕ, ◌+◌, ◌&&◌, ◌||◌, Bool, true, false, not, Option, Some, None, List, [], ◌∷◌, length, nat_le, codes, option_map, is_none, if◌then◌else◌}
use Rattle.std.specs.Str.{is_utf8}
use Rattle.program_reader.specs.declared.head.Head.{Head}
use Rattle.program_reader.specs.declared.head.Head.TheVariants.{Blank, Begin, Order, Unknown}
use Rattle.program_reader.specs.Names.{is_noted, numbered_of}
use Rattle.program_reader.specs.Around.{is_open_after}
use Rattle.program_reader.specs.Fault.{function_limit, order_limit, is_begin}
use Rattle.text_faults.specs.declared.fault.Operand.{Operand}
use Rattle.text_faults.specs.declared.fault.Operand.TheVariants.{IntRegister, RefRegister, Number, FieldCount, Label as LabelName, Function, NewFunction, NewLabel}
use Rattle.text_faults.specs.declared.fault.Wrong.{Wrong}
use Rattle.text_faults.specs.declared.fault.Wrong.TheVariants.{NotUtf8, OutsideFunction, UnknownWord, Missing, NotOne, Extra, InsideFunction, OpenFunction, SecondFunction, SecondLabel, UnknownFunction, UnknownLabel, NoMain, ManyFunctions, ManyInstructions}
use Rattle.text_faults.specs.declared.found.WordFault.{WordFault}
use Rattle.text_faults.specs.declared.walk.LinesAbove.{LinesAbove}
use Rattle.text_faults.specs.Placed.{PlacedWord, placed_words}
use Rattle.text_faults.specs.Operands.{is_operand}
use Rattle.text_faults.specs.Forms.{Form}
use Rattle.text_faults.specs.Lines.{head_of, form_of, first_placed_word, behind_first}

-- a word with what is wrong about it
pub record Wronged : Type 0 where
  pub column : ℕ
  pub word : List ℕ
  pub wrong : Wrong

abbrev pub wronged : PlacedWord → Wrong → Wronged
wronged p wrong = record { column = p.column; word = p.word; wrong = wrong }

abbrev pub wronged_of : WordFault → Wronged
wronged_of f = record { column = f.column; word = f.word.now; wrong = f.wrong }

abbrev pub wrong_if : Bool → PlacedWord → Wrong → Option Wronged
wrong_if true p wrong = Some (wronged p wrong)
wrong_if false p wrong = None

-- the place of a word alone
abbrev pub word_place : PlacedWord → PlacedWord
word_place p = record { column = p.column; word = [] }

-- THE LINE CAN'T BE READ: it isn't UTF-8, its first word may not stand here, or an operand is wrong

-- outside a function a line is empty or begins with `fn`; inside, its first word is a known one
abbrev pub misplaced : Bool → Head → Option Wrong
misplaced true Unknown = Some UnknownWord
misplaced true _ = None
misplaced false Blank = None
misplaced false Begin = None
misplaced false _ = Some OutsideFunction

-- the first operand that isn't of its kind, is missing, or is one too many; what is missing is missing after the word
-- before it
abbrev pub first_wrong : ℕ → Form → List PlacedWord → Option Wronged
first_wrong behind [] [] = None
first_wrong behind [] (p ∷ ps) = Some (wronged p Extra)
first_wrong behind (k ∷ ks) [] = Some (record { column = behind; word = []; wrong = Missing k })
first_wrong behind (k ∷ ks) (p ∷ ps) =
    if is_operand k p.word then first_wrong (p.column + length p.word) ks ps else Some (wronged p (NotOne k))

abbrev pub operand_wrong : Option Wrong → List PlacedWord → Option Wronged
operand_wrong (Some wrong) ps = Some (wronged (first_placed_word ps) wrong)
operand_wrong None ps = first_wrong ((first_placed_word ps).column + length (first_placed_word ps).word) (form_of ps) (behind_first ps)

abbrev pub unreadable : Bool → List ℕ → List PlacedWord → Option Wronged
unreadable inside line ps =
    if is_utf8 line then operand_wrong (misplaced inside (head_of ps)) ps
    else Some (record { column = 1; word = []; wrong = NotUtf8 })

-- A FUNCTION STAYS OPEN: another one begins in it, or no line follows

abbrev pub nested : LinesAbove → List PlacedWord → Option Wronged
nested w ps = wrong_if (w.inside && is_begin (head_of ps)) (first_placed_word ps) InsideFunction

abbrev pub left_open : LinesAbove → Bool → List PlacedWord → Option Wronged
left_open w last ps = wrong_if (last && is_open_after (head_of ps) w.inside) (word_place (first_placed_word ps)) OpenFunction

-- NAMES

abbrev pub wrong_unless : Bool → Wrong → Option Wrong
wrong_unless true wrong = None
wrong_unless false wrong = Some wrong

-- a function or a label of this name isn't there, or is there already
abbrev pub name_wrong : LinesAbove → Operand → List ℕ → Option Wrong
name_wrong w Function name = wrong_unless (is_noted w.outline.functions name) UnknownFunction
name_wrong w LabelName name = wrong_unless (is_noted w.labels.all.entries name) UnknownLabel
name_wrong w NewFunction name = option_map SecondFunction (numbered_of w.named name)
name_wrong w NewLabel name = option_map SecondLabel (numbered_of w.labels.above name)
name_wrong w _ name = None

abbrev pub wronged_or : PlacedWord → Option Wrong → Option Wronged → Option Wronged
wronged_or p (Some wrong) later = Some (wronged p wrong)
wronged_or p None later = later

-- the first operand with such a name
abbrev pub first_misnamed : LinesAbove → Form → List PlacedWord → Option Wronged
first_misnamed w [] ps = None
first_misnamed w (k ∷ ks) [] = None
first_misnamed w (k ∷ ks) (p ∷ ps) = wronged_or p (name_wrong w k p.word) (first_misnamed w ks ps)

-- THE TEXT: no line is `fn main`, and none follows; or there are too many functions or instructions

abbrev pub main_missing : LinesAbove → Bool → List PlacedWord → Option Wronged
main_missing w last ps = wrong_if (last && not (is_noted w.outline.functions (codes "main"))) (word_place (first_placed_word ps)) NoMain

abbrev pub too_many : LinesAbove → Head → PlacedWord → Option Wronged
too_many w Begin p = wrong_if (nat_le function_limit w.begun) p ManyFunctions
too_many w (Order v) p = wrong_if (nat_le order_limit w.orders) p ManyInstructions
too_many w _ p = None

-- ALL

abbrev pub with_wronged : Option Wronged → List Wronged → List Wronged
with_wronged (Some f) fs = f ∷ fs
with_wronged None fs = fs

abbrev pub if_read : Option Wronged → Option Wronged → Option Wronged
if_read (Some f) other = None
if_read None other = other

-- all that is wrong on a line, in this order; of a line that can't be read neither its names nor its number count
abbrev pub all_wronged : Option Wronged → Option Wronged → Option Wronged → Option Wronged → Option Wronged → Option Wronged → List Wronged
all_wronged unread nest opened names main many =
    with_wronged unread (with_wronged nest (with_wronged opened (with_wronged (if_read unread names) (with_wronged main (with_wronged (if_read unread many) [])))))

abbrev pub wrongs_by : LinesAbove → Bool → List ℕ → List PlacedWord → List Wronged
wrongs_by w last line ps =
    all_wronged (unreadable w.inside line ps) (nested w ps) (left_open w last ps)
    (first_misnamed w (form_of ps) (behind_first ps)) (main_missing w last ps) (too_many w (head_of ps) (first_placed_word ps))

abbrev pub wrongs_on : LinesAbove → Bool → List ℕ → List Wronged
wrongs_on w last line = wrongs_by w last line (placed_words line)
