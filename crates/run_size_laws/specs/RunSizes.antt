-- The size of a run's log.
use Rattle.std.specs.Prelude.{◌≡◌, true, All, List, length, sum}
use Rattle.log_size_laws.specs.Small.{IsSmallLog}
use Rattle.log_size_laws.specs.below.log_findings.{order_of}
use Rattle.log_size_laws.specs.below.log_weights.{weights_of}
use Rattle.run_limit_laws.specs.Limits.{IsSmallRun, run_texts}
use Rattle.run_limit_laws.specs.below.hh_lang.{ProgramText}
use Rattle.run_limit_laws.specs.below.log_text_laws.{events_of}
use Rattle.run_trace.specs.Entry.{EntryValue, IsEntry}
use Rattle.run_turn_laws.specs.below.log_form.{Event}
use Rattle.run_turn_laws.specs.below.run_ledger.{is_legal, tasks_of}
use Rattle.run_turn_laws.specs.below.run_trace.{SettingsValue}
use Rattle.told_graph_laws.specs.below.fork_graph.{Extent}
use Rattle.told_graph_laws.specs.below.log_tasks.{IsLog, LogTasks}

-- the log is small, and the weights of its strands sum up to the journal's steps
pub record IsSizeOfRun (journal : List EntryValue) (events : List Event) (log : LogTasks) : Type 0 where
  pub small : IsSmallLog events log
  pub work : sum (weights_of events log (order_of log)) ≡ length (tasks_of journal)

-- an entry that a trace may have takes at least one step, if it takes any
abbrev pub RunLogsAreSmall : Type 0
RunLogsAreSmall =
    (p : ProgramText) (s : SettingsValue) (journal : List EntryValue) → is_legal p s journal ≡ true → All IsEntry journal → IsSmallRun p journal
    → (extent : Extent) (log : LogTasks) → let events = events_of (run_texts p s journal) in IsLog events extent log → IsSizeOfRun journal events log
