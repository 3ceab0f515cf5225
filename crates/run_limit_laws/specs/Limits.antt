-- The limits of logs, for the log of a run.
use Rattle.std.specs.Prelude.{◌≡◌, ◌↔◌, ◌<◌, ℕ, true, false, Some, List, [], ◌∷◌, length}
use Rattle.run_turn_laws.specs.below.log_lines.{IsLine}
use Rattle.run_turn_laws.specs.below.log_lines.{LogLine}
use Rattle.run_turn_laws.specs.below.line_kinds as lines
use Rattle.log_text_laws.specs.Names.{AllFunctionsNamed}
use Rattle.log_text_laws.specs.below.log_form.{events_of, is_cut, texts_of}
use Rattle.run_log.specs.Log.{lines_of, log_of}
use Rattle.run_log_laws.specs.below.fork_graph.{GraphStrand}
use Rattle.run_log_laws.specs.below.hh_lang.{ProgramText}
use Rattle.run_turn_laws.specs.Events.{events_told}
use Rattle.run_turn_laws.specs.below.log_form.{Spot, file_begin, spot_behind}
use Rattle.run_turn_laws.specs.below.run_ledger.{is_legal, tasks_of, Done, Machine, end_of}
use Rattle.run_turn_laws.specs.below.run_trace.{EntryValue, SettingsValue}

-- its steps are few, and the program's names and numbers fit in lines
pub record IsSmallRun (p : ProgramText) (journal : List EntryValue) : Type 0 where
  pub steps : length (tasks_of journal) < 500000000
  pub names : AllFunctionsNamed p

-- the line opens a strand, or is an act of the open one
abbrev pub IsInPlace : Spot → LogLine → Type 0
IsInPlace s (lines.Strand t i) = Unit {0}
IsInPlace s (lines.Act a) = (u : GraphStrand) × (s.here ≡ Some u)
IsInPlace s _ = ⊥

-- lines from a spot on, each in its place and within the limits
abbrev pub FitInLog : Spot → List LogLine → Type 0
FitInLog s [] = Unit {0}
FitInLog s (l ∷ ls) = (IsLine l × IsInPlace s l) × FitInLog (spot_behind s l) ls

abbrev pub LogsAreWithinLimits : Type 0
LogsAreWithinLimits =
    (p : ProgramText) (s : SettingsValue) (journal : List EntryValue) → is_legal p s journal ≡ true → IsSmallRun p journal → FitInLog (file_begin []) (lines_of p s journal)

-- the text of a run's log
abbrev pub run_texts : ProgramText → SettingsValue → List EntryValue → List (List ℕ)
run_texts p s journal = texts_of (log_of p s journal ∷ [])

-- it tells what the journal's lines tell, and is cut unless the run ended by the return of main
pub record IsTextOfRun (p : ProgramText) (s : SettingsValue) (journal : List EntryValue) : Type 0 where
  pub tells : events_of (run_texts p s journal) ≡ events_told (lines_of p s journal)
  pub cut : (is_cut (run_texts p s journal) ≡ false) ↔ (end_of p s journal ≡ Some (Machine Done))

abbrev pub LogsTellRuns : Type 0
LogsTellRuns = (p : ProgramText) (s : SettingsValue) (journal : List EntryValue) → is_legal p s journal ≡ true → IsSmallRun p journal → IsTextOfRun p s journal
