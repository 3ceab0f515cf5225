-- What a run's log tells of its tasks.
use Rattle.std.specs.Prelude.{◌≡◌, ◌<◌, ℕ, true, false, List, length, slice_get}
use Rattle.hh_model.specs.Step.{is_running, is_waiting}
use Rattle.hh_model.specs.declared.data.MachineState.{MachineState}
use Rattle.hh_model.specs.declared.data.Task.{Task}
use Rattle.plain_vec.specs.Members.{In}
use Rattle.run_log_laws.specs.below.hh_lang.{ProgramText}
use Rattle.run_turn_laws.specs.Events.{events_told}
use Rattle.run_turn_laws.specs.below.log_form.{Event}
use Rattle.run_turn_laws.specs.below.log_lines as acts
use Rattle.run_turn_laws.specs.below.run_ledger.{is_legal, machine_of}
use Rattle.run_turn_laws.specs.below.run_log.{lines_of}
use Rattle.run_turn_laws.specs.below.run_trace.{EntryValue, SettingsValue}
use Rattle.told_graph_laws.specs.ToldGraph.{AreToldInOrder}

-- the task neither runs nor waits
abbrev pub HasEnded : List Task → ℕ → Type 0
HasEnded tasks t = (is_running (slice_get tasks t) ≡ false) × (is_waiting (slice_get tasks t) ≡ false)

-- the task's end is told
abbrev pub EndIsTold : List Event → ℕ → Type 0
EndIsTold events t = (e : Event) × In events e × (e.strand.task ≡ t) × (e.act ≡ acts.Finish)

-- what happens tells just the tasks of this state
pub record IsRunTold (m : MachineState) (events : List Event) : Type 0 where
  pub tasks : AreToldInOrder (length m.tasks) events
  pub ends : (t : ℕ) → t < length m.tasks → HasEnded m.tasks t → EndIsTold events t
  pub ended : (e : Event) → In events e → e.act ≡ acts.Finish → HasEnded m.tasks e.strand.task
  pub unreleased : (e : Event) → In events e → (block : ℕ) → e.act ≡ acts.Release block → ⊥

abbrev pub LogsTellTasks : Type 0
LogsTellTasks = (p : ProgramText) (s : SettingsValue) (journal : List EntryValue) → is_legal p s journal ≡ true → IsRunTold (machine_of p s journal) (events_told (lines_of p s journal))
