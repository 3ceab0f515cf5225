-- The names and numbers of programs that are read.
use Rattle.std.specs.Prelude.{◌≡◌, ◌≤◌, ℕ, Ok, List, length}
use Rattle.hh_lang.specs.Form.{ProgramText}
use Rattle.log_text_laws.specs.Names.{AllFunctionsNamed}
use Rattle.program_reader.specs.Program.{reading_of}
use Rattle.text_lines.specs.Lines.{most_bytes}

-- a program that is read from a text fits in the lines of a log
abbrev pub ReadProgramsAreNamed : Type 0
ReadProgramsAreNamed = (text : List ℕ) (p : ProgramText) → length text ≤ most_bytes → reading_of text ≡ Ok p → AllFunctionsNamed p
