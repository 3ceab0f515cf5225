-- The faults of the lines of a run's log.
use Rattle.std.specs.Prelude.{◌≡◌, true, None, List}
use Rattle.log_form.specs.Faults.{log_fault}
use Rattle.run_limit_laws.specs.Limits.{IsSmallRun, run_texts}
use Rattle.run_limit_laws.specs.below.hh_lang.{ProgramText}
use Rattle.run_turn_laws.specs.below.run_ledger.{is_legal}
use Rattle.run_turn_laws.specs.below.run_trace.{EntryValue, SettingsValue}

abbrev pub RunLinesHaveNoFault : Type 0
RunLinesHaveNoFault = (p : ProgramText) (s : SettingsValue) (journal : List EntryValue) → is_legal p s journal ≡ true → IsSmallRun p journal → log_fault (run_texts p s journal) ≡ None
