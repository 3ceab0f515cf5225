-- The names of a program's lines.
use Rattle.std.specs.Prelude.{ℕ, Bool, true, false, List, [], ◌++◌, codes, if◌then◌else◌}
use Rattle.std.specs.List.{flat_map}
use Rattle.std.specs.Fmt.{decimal}
use Rattle.run_log.specs.Common.{Instr, Getr, Geti, Putr, Puti, Cas, Line, Fun, ProgramText}

-- the instruction accesses a field
abbrev pub accesses_field : Instr → Bool
accesses_field (Getr d o k) = true
accesses_field (Geti d o k) = true
accesses_field (Putr o k v) = true
accesses_field (Puti o k v) = true
accesses_field (Cas d o k e v) = true
accesses_field _ = false

-- the name of a line of a function: the function's and the line's number
abbrev pub name_line : List ℕ → ℕ → List ℕ
name_line function number = codes "@ " ++ decimal number ++ codes " " ++ function ++ codes ":" ++ decimal number ++ codes "\n"

abbrev pub site_line : List ℕ → Line → List ℕ
site_line function l = if accesses_field l.instr then name_line function l.number else []

abbrev pub function_sites : Fun → List ℕ
function_sites f = flat_map (site_line f.name) f.code

-- the names of all lines that access a field
abbrev pub sites_of : ProgramText → List ℕ
sites_of p = flat_map function_sites p.functions
