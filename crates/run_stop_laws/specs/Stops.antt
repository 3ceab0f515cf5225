-- The entangled reads that are reported of a run's log, and the read on which the run was stopped.
use Rattle.std.specs.Prelude.{◌≡◌, ◌≤◌, ℕ, true, Some, List, [], length, slice_get}
use Rattle.run_limit_laws.specs.Limits.{IsSmallRun, run_texts}
use Rattle.run_limit_laws.specs.below.log_text_laws.{events_of}
use Rattle.run_read_laws.specs.below.hh_model.{Entangled, Name, owner_of}
use Rattle.run_read_laws.specs.below.run_log_laws.{ProgramText}
use Rattle.run_read_laws.specs.below.run_turn_laws.{EntryValue, Machine, SettingsValue, block_of, end_of, is_legal, machine_of}
use Rattle.told_birth_laws.specs.below.log_births.{AreFindings, Finding, Findings, yielded}
use Rattle.told_birth_laws.specs.below.plain_vec.{In}
use Rattle.told_birth_laws.specs.below.told_graph_laws.{Event, Extent, IsLog, LogTasks}

-- the run was stopped on act `line`: a read of the task `reader`, of a block whose object the task `owner` owns
pub record IsStopAt (p : ProgramText) (s : SettingsValue) (journal : List EntryValue) (events : List Event) (f : Finding) : Type 0 where
  pub reader : ℕ
  pub owner : ℕ
  pub ended : end_of p s journal ≡ Some (Machine (Entangled reader owner))
  pub read : Event
  pub at : slice_get events f.line ≡ Some read
  pub by : read.strand.task ≡ reader
  pub yields : yielded read.act ≡ Some f.block
  pub name : Name
  pub block : block_of name ≡ f.block
  pub owned : owner_of (machine_of p s journal).tasks name.task ≡ owner

-- the findings in the log of a run: one entangled read if the run was stopped on it, and nothing else
pub record AreFindingsOfRun (p : ProgramText) (s : SettingsValue) (journal : List EntryValue) (events : List Event) (found : Findings) : Type 0 where
  pub reads : (f : Finding) → In found.reads f → IsStopAt p s journal events f
  pub once : length found.reads ≤ 1
  pub stopped : (reader owner : ℕ) → end_of p s journal ≡ Some (Machine (Entangled reader owner)) → (f : Finding) × In found.reads f
  pub no_uses : found.uses ≡ []
  pub none_stale : found.stale ≡ []

abbrev pub LogsReportStops : Type 0
LogsReportStops =
    (p : ProgramText) (s : SettingsValue) (journal : List EntryValue) → is_legal p s journal ≡ true → IsSmallRun p journal
    → (extent : Extent) (log : LogTasks) (found : Findings)
    → let events = events_of (run_texts p s journal) in IsLog events extent log → AreFindings events log found → AreFindingsOfRun p s journal events found
