-- The inputs of commands: whose bytes they are, and the most bytes read.
use Rattle.std.specs.Prelude.{ℕ, Bool, true, false, List, [], Option, Some, None, Result, Err, length, nat_le, if◌then◌else◌}
use Rattle.command_answers.specs.Common.{most_bytes, source_bytes, ProgramText, program_limit, TextFault, reading_of, too_long, CommandLine, Check, Run, Replay, Model, Races, Make, Verify}
use Rattle.command_line.specs.declared.line.CommandLine.TheVariants.{Image}

-- the program that an input is, or why it is refused
abbrev pub program_in : List ℕ → Result ProgramText TextFault
program_in input = if nat_le (length input) program_limit then reading_of input else Err too_long

abbrev pub limit_of : CommandLine → ℕ
limit_of (Check file) = program_limit
limit_of (Run file options) = program_limit
limit_of (Replay file options) = most_bytes
limit_of (Model file options) = most_bytes
limit_of (Races file limits) = most_bytes
limit_of (Image file limits) = most_bytes
limit_of (Make seed size run) = 0
limit_of (Verify file) = most_bytes

-- whether a command reads an input
abbrev pub is_reading : CommandLine → Bool
is_reading (Make seed size run) = false
is_reading _ = true

abbrev pub reads : Option CommandLine → Bool
reads None = false
reads (Some line) = is_reading line

-- the bytes that a source has for a command; `make` reads none
abbrev pub source_bytes_for : Option (List ℕ) → (List ℕ → Option (List ℕ)) → CommandLine → Option (List ℕ)
source_bytes_for left named (Check file) = source_bytes left named file
source_bytes_for left named (Run file options) = source_bytes left named file
source_bytes_for left named (Replay file options) = source_bytes left named file
source_bytes_for left named (Model file options) = source_bytes left named file
source_bytes_for left named (Races file limits) = source_bytes left named file
source_bytes_for left named (Image file limits) = source_bytes left named file
source_bytes_for left named (Make seed size run) = Some []
source_bytes_for left named (Verify file) = source_bytes left named file
