-- What functions are called, and the numbers of lines.
use Rattle.std.specs.Prelude.{ℕ, Option, Some, None, List, [], slice_get}
use Rattle.hh_lang.specs.declared.program.Fun.{Fun}
use Rattle.hh_lang.specs.declared.program.Line.{Line}
use Rattle.hh_lang.specs.Form.{ProgramText}

abbrev pub name_in : Option Fun → List ℕ
name_in None = []
name_in (Some f) = f.name

abbrev pub function_name : ProgramText → ℕ → List ℕ
function_name p f = name_in (slice_get p.functions f)

-- the number of a line; 0 for none
abbrev pub line_number : Option Line → ℕ
line_number None = 0
line_number (Some l) = l.number
