-- A program's text followed by a trace, read again.
use Rattle.std.specs.Prelude.{◌≡◌, ◌≤◌, ◌↔◌, ℕ, false, List, [], ◌∷◌, ◌++◌, Some, Ok, length}
use Rattle.std.specs.List.{All}
use Rattle.hh_lang.specs.Form.{ProgramText}
use Rattle.text_lines.specs.Lines.{lines_of, most_bytes}
use Rattle.program_reader.specs.Program.{reading_of}
use Rattle.run_trace.specs.declared.settings.Version.{Version}
use Rattle.run_trace.specs.declared.trace.Trace.{Trace}
use Rattle.run_trace.specs.Entry.{EntryValue, IsEntry}
use Rattle.run_trace.specs.Trace.{IsTraceText, trace_text}
use Rattle.trace_input.specs.declared.input.TraceInput.{TraceInput}
use Rattle.trace_input.specs.Input.{IsInput, is_too_old}

-- the last byte is a line feed
abbrev pub EndsInFeed : List ℕ → Type 0
EndsInFeed text = (front : List ℕ) × (text ≡ front ++ 10 ∷ [])

-- the text of a program, and a trace that isn't too old for it, together within the limit
pub record TraceFollows (text behind : List ℕ) (p : ProgramText) (t : Trace) : Type 0 where
  pub program : reading_of text ≡ Ok p
  pub feed : EndsInFeed text
  pub new : is_too_old (Some t.version) p ≡ false
  pub within : length (text ++ behind) ≤ most_bytes

-- the input is read as this program and this trace, and as nothing else
abbrev pub IsReadAsTrace : List ℕ → ProgramText → Trace → Type 0
IsReadAsTrace input p t = (read : TraceInput) → IsInput input read ↔ (read ≡ record { program = p; trace = t })

-- the trace begins on the text's last line, the empty one after its line feed
abbrev pub InputsAreRead : Type 0
InputsAreRead = (text behind : List ℕ) (p : ProgramText) (t : Trace) → IsTraceText (length (lines_of text)) behind t → TraceFollows text behind p t → IsReadAsTrace (text ++ behind) p t

abbrev pub RecordedInputsAreRead : Type 0
RecordedInputsAreRead =
    (text : List ℕ) (p : ProgramText) (v : Version) (journal : List EntryValue) → All IsEntry journal → TraceFollows text (trace_text v journal) p (record { version = v; entries = journal })
    → IsReadAsTrace (text ++ trace_text v journal) p (record { version = v; entries = journal })
