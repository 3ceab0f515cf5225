-- The first fault of a text.
use Rattle.std.specs.Prelude.{ℕ, ◌+◌, ◌&&◌, ◌||◌, Bool, true, false, not, Option, Some, None, List, [], ◌∷◌, length, nat_le, codes, if◌then◌else◌}
use Rattle.std.specs.Str.{is_utf8}
use Rattle.program_reader.specs.declared.cause.Cause.{Cause}
use Rattle.program_reader.specs.declared.cause.Cause.TheVariants.{NotUtf8, Word, Operand, NoEnd, TwoNames, NoName, NoLabel, NoMain, TooMany}
use Rattle.program_reader.specs.declared.cause.TextFault.{TextFault}
use Rattle.program_reader.specs.declared.head.Head.{Head}
use Rattle.program_reader.specs.declared.head.Head.TheVariants.{Blank, Begin, Label, Order, Unknown}
use Rattle.program_reader.specs.declared.sense.Sense.{Sense}
use Rattle.program_reader.specs.declared.sense.Sense.TheVariants.{WrongOperand, NoSuchFunction, NoSuchLabel}
use Rattle.program_reader.specs.declared.sense.Outline.{Outline}
use Rattle.text_lines.specs.Lines.{is_last, lines_of}
use Rattle.program_reader.specs.Names.{NotedName, is_noted}
use Rattle.program_reader.specs.Sense.{sense_of, only_name}
use Rattle.program_reader.specs.Around.{head_of_line, operands_of_line, is_inside, is_open_after, outline_above, outline_of, labels_above, labels_onto, begun_above, orders_above}

-- what the lines around a line say about it
pub record LineContext : Type 0 where
  -- a function is open
  pub inside : Bool
  -- no line follows
  pub last : Bool
  -- the names of functions above
  pub named : List NotedName
  -- the number of functions that begin above
  pub begun : ℕ
  -- the number of instructions above
  pub orders : ℕ
  -- the labels above in its function
  pub labeled : List NotedName
  -- all labels of its function
  pub labels : List NotedName

abbrev pub spot_of : List (List ℕ) → List ℕ → List (List ℕ) → LineContext
spot_of above line below = record {
  inside = is_inside above;
  last = is_last below;
  named = (outline_above above).functions;
  begun = begun_above above;
  orders = orders_above above;
  labeled = (labels_above above).entries;
  labels = (labels_onto (labels_above above) (line ∷ below)).entries;
}

-- ---- one test for each cause

-- outside a function a line is empty or begins with `fn`; inside, its first word is a known one
abbrev pub is_misplaced : Bool → Head → Bool
is_misplaced true Unknown = true
is_misplaced true _ = false
is_misplaced false Blank = false
is_misplaced false Begin = false
is_misplaced false _ = true

abbrev pub has_wrong_operand : Sense → Bool
has_wrong_operand WrongOperand = true
has_wrong_operand _ = false

abbrev pub is_begin : Head → Bool
is_begin Begin = true
is_begin _ = false

-- `fn` inside a function, or the last line while a function is open
abbrev pub leaves_open : LineContext → Head → Bool
leaves_open s h = (s.inside && is_begin h) || (s.last && is_open_after h s.inside)

abbrev pub is_named_in : List NotedName → Option (List ℕ) → Bool
is_named_in es (Some name) = is_noted es name
is_named_in es None = false

-- a second `fn` with the same name, or a second `lab` with the same name in its function
abbrev pub is_second : LineContext → Head → List (List ℕ) → Bool
is_second s Begin ws = is_named_in s.named (only_name ws)
is_second s Label ws = is_named_in s.labeled (only_name ws)
is_second s _ ws = false

abbrev pub names_no_function : Sense → Bool
names_no_function NoSuchFunction = true
names_no_function _ = false

abbrev pub names_no_label : Sense → Bool
names_no_label NoSuchLabel = true
names_no_label _ = false

-- no line is `fn main`, and none follows
abbrev pub lacks_main : Outline → LineContext → Bool
lacks_main o s = s.last && not (is_noted o.functions (codes "main"))

-- the most functions of a text, and the most instructions
abbrev pub function_limit : ℕ
function_limit = 1024

abbrev pub order_limit : ℕ
order_limit = 65536

-- the line begins one function too many, or holds one instruction too many
abbrev pub is_too_many : LineContext → Head → Bool
is_too_many s Begin = nat_le function_limit s.begun
is_too_many s (Order v) = nat_le order_limit s.orders
is_too_many s _ = false

-- ---- the first cause on a line, and the first line with one

-- causes in their order, each with whether it holds
abbrev pub first_cause : Bool → Bool → Bool → Bool → Bool → Bool → Bool → Bool → Option Cause
first_cause word operand no_end two_names no_name no_label no_main too_many =
    if word then Some Word
    else if operand then Some Operand
    else if no_end then Some NoEnd
    else if two_names then Some TwoNames
    else if no_name then Some NoName
    else if no_label then Some NoLabel
    else if no_main then Some NoMain
    else if too_many then Some TooMany
    else None

-- the first cause on a line that is UTF-8
abbrev pub line_cause : Outline → LineContext → Head → List (List ℕ) → Sense → Option Cause
line_cause o s h ws sense = first_cause
    (is_misplaced s.inside h)
    (has_wrong_operand sense)
    (leaves_open s h)
    (is_second s h ws)
    (names_no_function sense)
    (names_no_label sense)
    (lacks_main o s)
    (is_too_many s h)

-- the first cause on a line; the outline is that of the whole text
abbrev pub fault_on : Outline → LineContext → List ℕ → Option Cause
fault_on o s line =
    if is_utf8 line
    then line_cause o s (head_of_line line) (operands_of_line line) (sense_of o s.labels (head_of_line line) (operands_of_line line))
    else Some NotUtf8

abbrev pub or_later_fault : Option Cause → ℕ → Option TextFault → Option TextFault
or_later_fault (Some cause) number later = Some (record { line = number; cause = cause })
or_later_fault None number later = later

-- the first line with a fault, of the lines that follow those above
abbrev pub first_fault_from : Outline → List (List ℕ) → List (List ℕ) → Option TextFault
first_fault_from o above [] = None
first_fault_from o above (l ∷ ls) = or_later_fault (fault_on o (spot_of above l ls) l) (length above + 1) (first_fault_from o (l ∷ above) ls)

-- the first fault of a text
abbrev pub first_fault : List ℕ → Option TextFault
first_fault text = first_fault_from (outline_of text) [] (lines_of text)
