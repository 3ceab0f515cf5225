-- What is shown of a text.
use Rattle.std.specs.Prelude.{ℕ, Bool, true, false, List, Result, Ok, Err, length, nat_le, if◌then◌else◌}
use Rattle.hh_lang.specs.Limits.{program_limit}
use Rattle.program_reader.specs.declared.cause.Cause.TheVariants.{TooLong}
use Rattle.program_reader.specs.declared.cause.TextFault.{TextFault}
use Rattle.text_faults.specs.declared.fault.Fault.{Fault}
use Rattle.text_faults.specs.Faults.{faults_of}
use Rattle.fault_lines.specs.Text.{faults_text}
use Rattle.fault_lines.specs.Json.{faults_json}

-- faults as JSON, or a line for each
abbrev pub shown_as : Bool → List Fault → List ℕ
shown_as true faults = faults_json faults
shown_as false faults = faults_text faults

-- the faults of a text, unless it is too long to be a program
abbrev pub shown_faults : Bool → List ℕ → Result (List ℕ) TextFault
shown_faults json text = if nat_le (length text) program_limit then Ok (shown_as json (faults_of text)) else Err (record { line = 0; cause = TooLong })
