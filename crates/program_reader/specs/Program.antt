-- The program of a text.
use Rattle.std.specs.Prelude.{ℕ, ◌+◌, Option, Some, None, List, [], ◌∷◌, ◌++◌, codes, map, Result, Ok, Err}
use Rattle.std.specs.Option.{unwrap_or}
use Rattle.hh_lang.specs.declared.instr.Instr.{Instr}
use Rattle.hh_lang.specs.declared.instr.Instr.TheVariants.{Ret}
use Rattle.hh_lang.specs.declared.program.Line.{Line}
use Rattle.hh_lang.specs.declared.program.Fun.{Fun}
use Rattle.hh_lang.specs.Form.{ProgramText}
use Rattle.hh_lang.specs.Loop.{Loop, whole_code, left_code, right_code}
use Rattle.program_reader.specs.declared.head.Head.{Head}
use Rattle.program_reader.specs.declared.head.Head.TheVariants.{Begin, End}
use Rattle.program_reader.specs.declared.sense.Sense.{Sense}
use Rattle.program_reader.specs.declared.sense.Sense.TheVariants.{Does}
use Rattle.program_reader.specs.declared.sense.Outline.{Outline}
use Rattle.program_reader.specs.declared.cause.TextFault.{TextFault}
use Rattle.program_reader.specs.Fault.{first_fault}
use Rattle.text_lines.specs.Lines.{lines_of}
use Rattle.program_reader.specs.Names.{NotedName, name_index}
use Rattle.program_reader.specs.Sense.{sense_of, loop_function}
use Rattle.program_reader.specs.Around.{head_of_line, operands_of_line, begun_name, no_labels, labels_onto, outline_of}

abbrev pub line_of : Instr → ℕ → Line
line_of instr number = record { instr = instr; number = number }

-- ---- the functions of the text

-- a line's part of the code of its function, before that of the lines that follow: an instruction, or the last return
-- at `end`
abbrev pub code_by : Head → Sense → ℕ → List Line → List Line
code_by Begin sense number rest = []
code_by End sense number rest = line_of Ret number ∷ []
code_by h (Does instr) number rest = line_of instr number ∷ rest
code_by h _ number rest = rest

-- the code of a function with these labels, from the line of this number on
abbrev pub code_from : Outline → List NotedName → ℕ → List (List ℕ) → List Line
code_from o labels number [] = []
code_from o labels number (l ∷ ls) = code_by (head_of_line l) (sense_of o labels (head_of_line l) (operands_of_line l)) number (code_from o labels (number + 1) ls)

abbrev pub with_function : Option (List ℕ) → List Line → List Fun → List Fun
with_function (Some name) code rest = record { name = name; code = code } ∷ rest
with_function None code rest = rest

-- the functions of the lines from this number on
abbrev pub functions_from : Outline → ℕ → List (List ℕ) → List Fun
functions_from o number [] = []
functions_from o number (l ∷ ls) =
    with_function (begun_name (head_of_line l) (operands_of_line l))
    (code_from o (labels_onto no_labels ls).entries (number + 1) ls)
    (functions_from o (number + 1) ls)

-- ---- the functions of loops: for each function that a `pfor` names, `f?`, `f<` and `f>`

abbrev pub function_number : Outline → List ℕ → ℕ
function_number o name = unwrap_or (name_index o.functions name) 0

-- all instructions with one line
abbrev pub on_line : ℕ → List Instr → List Line
on_line number code = map (λ i. line_of i number) code

-- the loop over the function f, whose own functions have the numbers from `first` on
abbrev pub loop_from : ℕ → ℕ → Loop
loop_from f first = record { body = f; whole = first; left = first + 1; right = first + 2 }

abbrev pub function_of : List ℕ → ℕ → List Instr → Fun
function_of name number code = record { name = name; code = on_line number code }

-- the three functions of a loop; the first one's number is `first`, and all lines are that of the first `pfor f`
abbrev pub loop_functions : Outline → ℕ → NotedName → List Fun
loop_functions o first e =
    function_of (e.name ++ codes "?") e.number (whole_code (loop_from (function_number o e.name) first)) ∷
    function_of (e.name ++ codes "<") e.number (left_code first) ∷
    function_of (e.name ++ codes ">") e.number (right_code first) ∷ []

-- the functions of the loops from an index on
abbrev pub loops_from : Outline → ℕ → List NotedName → List Fun
loops_from o k [] = []
loops_from o k (e ∷ es) = loop_functions o (loop_function o k) e ++ loops_from o (k + 1) es

-- ---- the program

-- the program of a text without a fault
abbrev pub program_of : List ℕ → ProgramText
program_of text =
    let o = outline_of text in
    record { functions = functions_from o 1 (lines_of text) ++ loops_from o 0 o.loops; main = function_number o (codes "main") }

abbrev pub unless_refused : Option TextFault → ProgramText → Result ProgramText TextFault
unless_refused None p = Ok p
unless_refused (Some r) p = Err r

-- what a text is read as: its first fault, or its program
abbrev pub reading_of : List ℕ → Result ProgramText TextFault
reading_of text = unless_refused (first_fault text) (program_of text)
