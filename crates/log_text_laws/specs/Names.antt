-- The lines that name the sites of a program.
use Rattle.std.specs.Prelude.{◌≢◌, ℕ, List, [], ◌∷◌, if◌then◌else◌}
use Rattle.std.specs.List.{All, flat_map}
use Rattle.hh_lang.specs.Form.{ProgramText}
use Rattle.hh_lang.specs.declared.program.Fun.{Fun}
use Rattle.hh_lang.specs.declared.program.Line.{Line}
use Rattle.log_lines.specs.Limits.{IsLogNumber}
use Rattle.log_lines.specs.declared.line.LogLine.{LogLine}
use Rattle.log_lines.specs.declared.line.LogLine.TheVariants as lines
use Rattle.run_log.specs.Sites.{accesses_field}

-- the byte ends neither a line nor a text
abbrev pub IsInsideLine : ℕ → Type 0
IsInsideLine c = (c ≢ 10) × (c ≢ 0)

-- the name fits in a line, and so do the numbers of lines
pub record HasName (f : Fun) : Type 0 where
  pub bytes : All IsInsideLine f.name
  pub numbers : All (λ l. IsLogNumber l.number) f.code

abbrev pub AllFunctionsNamed : ProgramText → Type 0
AllFunctionsNamed p = All HasName p.functions

-- each line that accesses a field is a site
abbrev pub names_at : Line → List LogLine
names_at l = if accesses_field l.instr then lines.Name l.number ∷ [] else []

abbrev pub names_in : Fun → List LogLine
names_in f = flat_map names_at f.code

abbrev pub name_lines : ProgramText → List LogLine
name_lines p = flat_map names_in p.functions
