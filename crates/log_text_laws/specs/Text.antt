-- The text of a run's log, read back.
use Rattle.std.specs.Prelude.{◌≡◌, ◌↔◌, ℕ, true, false, Some, Ok, List, [], ◌∷◌, ◌++◌, map}
use Rattle.std.specs.List.{All}
use Rattle.hh_lang.specs.Form.{ProgramText}
use Rattle.hh_model.specs.declared.data.End.TheVariants.{Done}
use Rattle.run_journal.specs.below.run_trace.{EntryValue}
use Rattle.run_journal.specs.below.run_trace.{SettingsValue}
use Rattle.run_journal.specs.below.run_ledger.{Machine, end_of, is_legal}
use Rattle.log_lines.specs.declared.line.LogLine.{LogLine}
use Rattle.log_lines.specs.declared.line.LogLine.TheVariants as lines
use Rattle.log_lines.specs.Grammar.{line_of}
use Rattle.log_lines.specs.Limits.{IsLine}
use Rattle.log_form.specs.Text.{lines_in, text_of, texts_of}
use Rattle.log_form.specs.Events.{events_of, is_cut}
use Rattle.run_log.specs.Writing.{line_text}
use Rattle.run_log.specs.Log.{end_lines, lines_of, log_of}
use Rattle.run_turn_laws.specs.Events.{events_told}
use Rattle.log_text_laws.specs.Names.{AllFunctionsNamed, name_lines}

-- a line that is written is read again as itself
abbrev pub WrittenLinesAreReadAgain : Type 0
WrittenLinesAreReadAgain = (l : LogLine) → IsLine l → line_of (line_text l) ≡ Ok l

-- a file is read as these lines
abbrev pub IsReadAsLines : List ℕ → List LogLine → Type 0
IsReadAsLines file ls = map line_of (lines_in (text_of file)) ≡ map Ok ls

-- the lines of a journal's log: its version, the names of the program's sites, what its tasks do, and its end
abbrev pub lines_in_log : ProgramText → SettingsValue → List EntryValue → List LogLine
lines_in_log p s journal = (lines.Version ∷ []) ++ name_lines p ++ lines_of p s journal ++ end_lines (end_of p s journal)

-- where names and numbers fit in lines, a log is read again as its lines
abbrev pub LogsAreReadAgain : Type 0
LogsAreReadAgain = (p : ProgramText) (s : SettingsValue) (journal : List EntryValue) → AllFunctionsNamed p → All IsLine (lines_of p s journal) → IsReadAsLines (log_of p s journal) (lines_in_log p s journal)

-- and the text tells what the journal's lines tell
abbrev pub LogsAreToldAgain : Type 0
LogsAreToldAgain =
    (p : ProgramText) (s : SettingsValue) (journal : List EntryValue) → AllFunctionsNamed p → All IsLine (lines_of p s journal)
    → events_of (texts_of (log_of p s journal ∷ [])) ≡ events_told (lines_of p s journal)

-- and is cut unless the run ended by the return of main
abbrev pub LogsAreCutUnlessDone : Type 0
LogsAreCutUnlessDone =
    (p : ProgramText) (s : SettingsValue) (journal : List EntryValue) → is_legal p s journal ≡ true → AllFunctionsNamed p → All IsLine (lines_of p s journal)
    → (is_cut (texts_of (log_of p s journal ∷ [])) ≡ false) ↔ (end_of p s journal ≡ Some (Machine Done))
