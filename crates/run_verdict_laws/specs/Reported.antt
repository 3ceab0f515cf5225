-- The races that are reported of a run's log, and those of the run.
use Rattle.std.specs.Prelude.{◌≡◌, ◌↔◌, ℕ, true, List}
use Rattle.log_races.specs.Touches.{touches_of}
use Rattle.log_verdict.specs.Verdict.{AreVerdicts}
use Rattle.log_walk.specs.Value.{WalkValue, IsWalked}
use Rattle.race_scan.specs.Laws.{HasLocation}
use Rattle.race_scan.specs.declared.cells.FoundRace.{FoundRace}
use Rattle.run_limit_laws.specs.Limits.{IsSmallRun, run_texts}
use Rattle.run_limit_laws.specs.below.log_text_laws.{events_of}
use Rattle.run_race_laws.specs.Races.{HasField, IsLocationOf}
use Rattle.run_race_laws.specs.below.race_report.{Field, FieldAccess, RaceAt, accesses}
use Rattle.run_race_laws.specs.below.run_turn_laws.{ProgramText, EntryValue, SettingsValue, field_limit, is_legal, machine_of, tasks_of}
use Rattle.told_race_laws.specs.below.plain_vec.{In}
use Rattle.told_race_laws.specs.below.told_graph_laws.{Extent, IsLog, LogTasks}

-- one of the races is of the location
abbrev pub IsFoundAt : List FoundRace → ℕ → ℕ → Type 0
IsFoundAt races block x = (f : FoundRace) × In races f × HasLocation f block x

-- the location is a field's for which two accesses of the run race
pub record RunRacesAt (p : ProgramText) (s : SettingsValue) (journal : List EntryValue) (block x : ℕ) : Type 0 where
  pub field : Field
  pub there : HasField (machine_of p s journal).store field
  pub at : IsLocationOf (machine_of p s journal).store field block x
  pub race : (i : ℕ) × (j : ℕ) × (u : FieldAccess) × (v : FieldAccess) × RaceAt (machine_of p s journal).edges (accesses p (field_limit s.version) (tasks_of journal)) field i j u v

-- a walk over the graph of the log finds a race at just these locations
abbrev pub LogsReportRaces : Type 0
LogsReportRaces =
    (p : ProgramText) (s : SettingsValue) (journal : List EntryValue) → is_legal p s journal ≡ true → IsSmallRun p journal
    → (extent : Extent) (log : LogTasks) (walk : WalkValue) (races : List FoundRace)
    → let events = events_of (run_texts p s journal) in
    IsLog events extent log → IsWalked walk → walk.tasks ≡ log.turns → AreVerdicts walk (touches_of events log walk.order) races
    → (block x : ℕ) → IsFoundAt races block x ↔ RunRacesAt p s journal block x
