-- Trace texts: a line with the version, and then a line for each entry.
use Rattle.std.specs.Prelude.{◌≡◌, ℕ, ◌+◌, Bool, true, false, Option, Some, None, List, [], ◌∷◌, ◌++◌, codes, if◌then◌else◌}
use Rattle.std.specs.List.{flat_map}
use Rattle.std.specs.Str.{bytes_eq, is_utf8}
use Rattle.std.specs.Fmt.{decimal}
use Rattle.text_lines.specs.Lines.{lines_of, words_of}
use Rattle.run_trace.specs.declared.settings.Version.{Version}
use Rattle.run_trace.specs.declared.settings.Version.TheVariants.{One, Two}
use Rattle.run_trace.specs.declared.line.TraceLine.{TraceLine}
use Rattle.run_trace.specs.declared.line.TraceLine.TheVariants.{Nothing, Says, Wrong}
use Rattle.run_trace.specs.declared.trace.Trace.{Trace}
use Rattle.run_trace.specs.Entry.{EntryValue}
use Rattle.run_trace.specs.Settings.{version_number}
use Rattle.run_trace.specs.Line.{trace_line, entry_line, line as line_with}

-- READING

abbrev pub version_by : List ℕ → Option Version
version_by word = if bytes_eq word (codes "1") then Some One else if bytes_eq word (codes "2") then Some Two else None

-- the words `trace` and a version
abbrev pub version_of_words : List (List ℕ) → Option Version
version_of_words (w ∷ v ∷ []) = if bytes_eq w (codes "trace") then version_by v else None
version_of_words _ = None

-- the version in the first line of a trace text
abbrev pub version_of : List ℕ → Option Version
version_of line = if is_utf8 line then version_of_words (words_of line) else None

abbrev pub or_bad : ℕ → TraceLine → Option ℕ → Option ℕ
or_bad n Wrong later = Some n
or_bad n Nothing later = later
or_bad n (Says e) later = later

-- the number of the first line that is no entry, if the first line has the number n
abbrev pub first_bad : ℕ → List (List ℕ) → Option ℕ
first_bad n [] = None
first_bad n (line ∷ lines) = or_bad n (trace_line line) (first_bad (n + 1) lines)

abbrev pub onto_entries : TraceLine → List EntryValue → List EntryValue
onto_entries (Says e) rest = e ∷ rest
onto_entries Nothing rest = rest
onto_entries Wrong rest = rest

-- the entries of lines
abbrev pub entries_in : List (List ℕ) → List EntryValue
entries_in [] = []
entries_in (line ∷ lines) = onto_entries (trace_line line) (entries_in lines)

abbrev pub first_faulty_line : ℕ → Option Version → List (List ℕ) → Option ℕ
first_faulty_line n None lines = Some n
first_faulty_line n (Some v) lines = first_bad (n + 1) lines

abbrev pub fault_in : ℕ → List (List ℕ) → Option ℕ
fault_in n [] = Some n
fault_in n (line ∷ lines) = first_faulty_line n (version_of line) lines

-- the first malformed line, if the text begins on line n
abbrev pub trace_fault : ℕ → List ℕ → Option ℕ
trace_fault n text = fault_in n (lines_of text)

abbrev pub AreTraceLines : List (List ℕ) → Trace → Type 0
AreTraceLines [] t = ⊥
AreTraceLines (line ∷ lines) t = (version_of line ≡ Some t.version) × (t.entries ≡ entries_in lines)

-- a text without a fault, and its entries
pub record IsTraceText (n : ℕ) (text : List ℕ) (t : Trace) : Type 0 where
  pub no_fault : trace_fault n text ≡ None
  pub says : AreTraceLines (lines_of text) t

-- WRITING

abbrev pub version_line : Version → List ℕ
version_line v = line_with (codes "trace" ∷ decimal (version_number v) ∷ [])

-- the trace text of a journal
abbrev pub trace_text : Version → List EntryValue → List ℕ
trace_text v journal = version_line v ++ flat_map entry_line journal

-- THE READER

abbrev pub NotesLine : List EntryValue → List EntryValue → TraceLine → Bool → Type 0
NotesLine old new Nothing noted = (new ≡ old) × (noted ≡ true)
NotesLine old new (Says e) noted = (new ≡ old ++ e ∷ []) × (noted ≡ true)
NotesLine old new Wrong noted = noted ≡ false
