-- What an input of a program and a trace says, and its first fault.
use Rattle.std.specs.Prelude.{◌≡◌, ℕ, ◌-◌, ◌==◌, ◌||◌, Bool, true, false, Option, Some, None, List, [], ◌∷◌, length, nat_le, slice_get, if◌then◌else◌}
use Rattle.std.specs.List.{list_any}
use Rattle.hh_lang.specs.declared.instr.Instr.{Instr}
use Rattle.hh_lang.specs.declared.instr.Instr.TheVariants.{Freeze, Cas}
use Rattle.hh_lang.specs.declared.program.Fun.{Fun}
use Rattle.hh_lang.specs.Form.{ProgramText}
use Rattle.text_lines.specs.Lines.{lines_of, most_bytes}
use Rattle.run_trace.specs.declared.settings.Version.{Version}
use Rattle.run_trace.specs.declared.settings.Version.TheVariants.{One, Two}
use Rattle.run_trace.specs.Settings.{SettingsValue}
use Rattle.run_trace.specs.Trace.{version_of, fault_in, AreTraceLines}
use Rattle.program_reader.specs.declared.cause.Cause.TheVariants.{TooLong}
use Rattle.program_reader.specs.declared.cause.TextFault.{TextFault}
use Rattle.program_reader.specs.Fault.{first_fault}
use Rattle.program_reader.specs.Program.{program_of}
use Rattle.trace_input.specs.declared.input.InputFault.{InputFault}
use Rattle.trace_input.specs.declared.input.InputFault.TheVariants.{Source, BadLine}
use Rattle.or_no_memory.specs.declared.OrNoMemory.{OrNoMemory}
use Rattle.or_no_memory.specs.Refusals.{Reports}
use Rattle.trace_input.specs.declared.input.TraceInput.{TraceInput}
use Rattle.trace_input.specs.Cut.{program_part, trace_lines, trace_number}

-- PROGRAMS WITHOUT A TRACE OF THE FIRST VERSION

abbrev pub is_newer_instr : Instr → Bool
is_newer_instr (Freeze o) = true
is_newer_instr (Cas d o k e v) = true
is_newer_instr _ = false

abbrev pub is_question_mark : Option ℕ → Bool
is_question_mark None = false
is_question_mark (Some c) = c == 63

-- the name of a function that a parallel loop adds ends with a question mark, which no name of a text does
abbrev pub is_added_name : List ℕ → Bool
is_added_name name = is_question_mark (slice_get name (length name - 1))

abbrev pub is_newer_function : Fun → Bool
is_newer_function f = is_added_name f.name || list_any (λ l. is_newer_instr l.instr) f.code

-- a program with `freeze`, `cas` or a parallel loop
abbrev pub is_newer : ProgramText → Bool
is_newer p = list_any is_newer_function p.functions

-- THE TRACE

abbrev pub is_too_old : Option Version → ProgramText → Bool
is_too_old (Some One) p = is_newer p
is_too_old (Some Two) p = false
is_too_old None p = false

-- the first bad line of a trace that begins on this line: the trace line itself, if its version is missing or too old
-- for the program
abbrev pub trace_bad : ℕ → ProgramText → List (List ℕ) → Option ℕ
trace_bad number p [] = Some number
trace_bad number p (l ∷ ls) = if is_too_old (version_of l) p then Some number else fault_in number (l ∷ ls)

-- without a trace line, the last line of the input is bad
abbrev pub bad_line : ℕ → ℕ → ProgramText → List (List ℕ) → Option ℕ
bad_line last number p [] = Some last
bad_line last number p (l ∷ ls) = trace_bad number p (l ∷ ls)

-- THE INPUT

abbrev pub as_bad_line : Option ℕ → Option InputFault
as_bad_line None = None
as_bad_line (Some n) = Some (BadLine n)

-- the program's faults come first, then those of the trace
abbrev pub first_input_fault : Option TextFault → Option ℕ → Option InputFault
first_input_fault (Some r) bad = Some (Source r)
first_input_fault None bad = as_bad_line bad

abbrev pub parts_fault : List ℕ → Option InputFault
parts_fault input =
    first_input_fault (first_fault (program_part input))
    (bad_line (length (lines_of input)) (trace_number input) (program_of (program_part input)) (trace_lines (lines_of input)))

-- more bytes than the limit
abbrev pub too_long : TextFault
too_long = record { line = 0; cause = TooLong }

-- the first fault of an input
abbrev pub input_fault : List ℕ → Option InputFault
input_fault input = if nat_le (length input) most_bytes then parts_fault input else Some (Source too_long)

-- an input without a fault, and what it says
pub record IsInput (input : List ℕ) (t : TraceInput) : Type 0 where
  pub no_fault : input_fault input ≡ None
  pub program : t.program ≡ program_of (program_part input)
  pub trace : AreTraceLines (trace_lines (lines_of input)) t.trace

-- the settings of its run: these, with the version that the trace names
abbrev pub settings_for : SettingsValue → TraceInput → SettingsValue
settings_for s t = record s { version = t.trace.version }

-- a trace that isn't read has its first bad line there
abbrev pub FailsTrace : Option ℕ → OrNoMemory InputFault → Type 0
FailsTrace bad e = Reports (as_bad_line bad) e
