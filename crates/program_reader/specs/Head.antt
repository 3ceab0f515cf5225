-- What the first word of a line says.
use Rattle.std.specs.Prelude.{ℕ, Option, Some, None, List, [], ◌∷◌, codes, if◌then◌else◌}
use Rattle.std.specs.Str.{bytes_eq}
use Rattle.hh_lang.specs.declared.instr.Operator.TheVariants.{Add, Sub, Mul, Div, Rem, Lt, Eq}
use Rattle.program_reader.specs.declared.head.Verb.{Verb}
use Rattle.program_reader.specs.declared.head.Verb.TheVariants.{Set, Mov, Movr, Nil, Calc, Same, Jmp, Jz, Newm, Pack, Getr, Geti, Putr, Puti, Cntr, Cnti, Freeze, Cas, Call, Par, Pfor, Ret, Out}
use Rattle.program_reader.specs.declared.head.Head.{Head}
use Rattle.program_reader.specs.declared.head.Head.TheVariants.{Blank, Begin, End, Label, Order, Unknown}

-- instructions on numbers
abbrev pub number_verb : List ℕ → Option Verb
number_verb w =
    if bytes_eq w (codes "set") then Some Set
    else if bytes_eq w (codes "mov") then Some Mov
    else if bytes_eq w (codes "add") then Some (Calc Add)
    else if bytes_eq w (codes "sub") then Some (Calc Sub)
    else if bytes_eq w (codes "mul") then Some (Calc Mul)
    else if bytes_eq w (codes "div") then Some (Calc Div)
    else if bytes_eq w (codes "rem") then Some (Calc Rem)
    else if bytes_eq w (codes "lt") then Some (Calc Lt)
    else if bytes_eq w (codes "eq") then Some (Calc Eq)
    else None

-- instructions on references and objects
abbrev pub object_verb : List ℕ → Option Verb
object_verb w =
    if bytes_eq w (codes "movr") then Some Movr
    else if bytes_eq w (codes "nil") then Some Nil
    else if bytes_eq w (codes "same") then Some Same
    else if bytes_eq w (codes "newm") then Some Newm
    else if bytes_eq w (codes "pack") then Some Pack
    else if bytes_eq w (codes "getr") then Some Getr
    else if bytes_eq w (codes "geti") then Some Geti
    else if bytes_eq w (codes "putr") then Some Putr
    else if bytes_eq w (codes "puti") then Some Puti
    else if bytes_eq w (codes "cntr") then Some Cntr
    else if bytes_eq w (codes "cnti") then Some Cnti
    else if bytes_eq w (codes "freeze") then Some Freeze
    else if bytes_eq w (codes "cas") then Some Cas
    else None

-- instructions on control flow, and the output
abbrev pub flow_verb : List ℕ → Option Verb
flow_verb w =
    if bytes_eq w (codes "jmp") then Some Jmp
    else if bytes_eq w (codes "jz") then Some Jz
    else if bytes_eq w (codes "call") then Some Call
    else if bytes_eq w (codes "par") then Some Par
    else if bytes_eq w (codes "pfor") then Some Pfor
    else if bytes_eq w (codes "ret") then Some Ret
    else if bytes_eq w (codes "out") then Some Out
    else None

abbrev pub or_verb : Option Verb → Option Verb → Option Verb
or_verb (Some v) other = Some v
or_verb None other = other

-- the instruction that a word begins
abbrev pub verb_of : List ℕ → Option Verb
verb_of w = or_verb (number_verb w) (or_verb (object_verb w) (flow_verb w))

abbrev pub or_order : Option Verb → Head
or_order (Some v) = Order v
or_order None = Unknown

-- what kind of line a first word makes it
abbrev pub head_of_word : List ℕ → Head
head_of_word w =
    if bytes_eq w (codes "fn") then Begin
    else if bytes_eq w (codes "end") then End
    else if bytes_eq w (codes "lab") then Label
    else or_order (verb_of w)

-- what kind of line these words make
abbrev pub head_of_words : List (List ℕ) → Head
head_of_words [] = Blank
head_of_words (w ∷ ws) = head_of_word w

-- what follows the first word
abbrev pub operands_of : List (List ℕ) → List (List ℕ)
operands_of [] = []
operands_of (w ∷ ws) = ws
