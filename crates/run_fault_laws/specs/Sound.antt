-- The faults of a run's log.
use Rattle.std.specs.Prelude.{◌≡◌, ℕ, true, Some, List, length}
use Rattle.fork_graph.specs.declared.fault.Extent.{Extent}
use Rattle.fork_graph.specs.declared.fault.Extent.TheVariants.{Whole}
use Rattle.fork_graph.specs.declared.graph.GraphTurn.{GraphTurn}
use Rattle.log_tasks.specs.Faults.{HasNoneBelow}
use Rattle.log_tasks.specs.Numbers.{AreNumbers}
use Rattle.log_tasks.specs.Rows.{AreRows}
use Rattle.run_log_laws.specs.below.hh_lang.{ProgramText}
use Rattle.run_turn_laws.specs.Events.{events_told}
use Rattle.run_turn_laws.specs.below.run_ledger.{Done, is_legal, machine_of}
use Rattle.run_turn_laws.specs.below.run_log.{lines_of}
use Rattle.run_turn_laws.specs.below.run_trace.{EntryValue, SettingsValue}

-- none of the tasks that a run's log tells has a fault; only that of a run that ended by the return of main is whole
abbrev pub RunTasksAreSound : Type 0
RunTasksAreSound =
    (p : ProgramText) (s : SettingsValue) (journal : List EntryValue) → is_legal p s journal ≡ true
    → (extent : Extent) → (extent ≡ Whole → (machine_of p s journal).end ≡ Some Done)
    → let events = events_told (lines_of p s journal) in
    (numbers : List ℕ) (rows : List (List GraphTurn)) → AreNumbers events numbers → AreRows events numbers rows → HasNoneBelow events extent numbers rows (length rows)
