-- A child's last frame returns, and its sibling goes on.
use Rattle.fork_join_commit.proofs.Common.{◌≡◌, ℕ, false, Some, None, slice_get, refl, ap, sym, ◌∙◌, if◌then◌else◌, got_other, got_same, ReservedVecValue, MachineState, Task, child_ended_by, ended_task, is_running, parents, result_of, with_task, waiting_stops, EntryValue, Ledger, Ended, state_of as state_in_tree, EndsFirst, Ending, RunsPrivateSteps, Private, SharedValue, IsSharedValue, accounts_are, still_goes, MakesSteps, steps_others, steps_world, lets_go, AsksLast, last_entry, last_steps, EndsChild, running_parent, where_running}
use Rattle.step_commit.specs.below.hh_model.{parent_of}
use Rattle.step_commit.proofs.LastStepEntry as last
use Rattle.step_commit.proofs.TaskEnds as ending
use Rattle.fork_join_commit.proofs.ChildReturns as steps
use Rattle.fork_join_commit.proofs.ChildReturns.{AsksEnd}
use Rattle.fork_join_commit.proofs.LastReturnKinds.{ends}

module _ {w : SharedValue} {k : ℕ} {p : Private} (asks : AsksEnd w k p) (open_ : state_in_tree w.tree (steps.other asks) ≡ Some Ended → ⊥) where
  open asks use {I, F}

  abbrev asked : AsksLast w k p
  asked = steps.asked asks

  open (last.names (steps.asked asks)) use {t, l, M, L, S}

  abbrev q : ℕ
  q = steps.parent asks

  abbrev z : Task
  z = ended_task S.task (result_of S.task.top)

  abbrev m' : MachineState
  m' = with_task M.machine t z

  machine_is : L.machine ≡ m'
  machine_is =
      last.machine_then asked
      ∙ (steps.step_is asks ∙ ap (child_ended_by M.machine t S.task q (result_of S.task.top)) (steps.other_open asks open_))

  at_then : slice_get L.machine.tasks t ≡ Some z
  at_then = ap (λ (m : MachineState). slice_get m.tasks t) machine_is ∙ got_same M.machine.tasks t S.task z S.at.task

  goes_then : L.machine.end ≡ None
  goes_then = ap (λ (m : MachineState). m.end) machine_is ∙ last.mid_goes asked

  D : EndsFirst M L t S.task
  D = ends w.program M L t S.task S.line (last.is_not_private asked) (steps.says asks).0 z at_then goes_then refl S.kind S.last

  -- how the entry splits
  abbrev E : RunsPrivateSteps w.program w.settings l L t k p.fresh
  E = record (last.runs_so asked) { splits = record S { kind = Ending; last = D; apart = last.is_not_private asked; on = λ u. goes_then } }

  -- the parent waits on
  parent_then : running_parent L.machine.tasks t ≡ None
  parent_then =
      let par : parents L.machine.tasks t ≡ Some q = ap parent_of at_then ∙ steps.parent_is asks in
      let same : slice_get L.machine.tasks q ≡ slice_get M.machine.tasks q = ap (λ (m : MachineState). slice_get m.tasks q) machine_is ∙ got_other M.machine.tasks t q z (steps.parent_apart asks) in
      let stops : is_running (slice_get L.machine.tasks q) ≡ false = ap is_running same ∙ waiting_stops (slice_get M.machine.tasks q) (steps.parent_waits asks) in
      ap (where_running L.machine.tasks) par ∙ ap (λ b. if b then Some q else None) stops

  module _ (j : ReservedVecValue EntryValue) where
    abbrev pub w' : SharedValue
    w' = ending.w' asked w.end j.room

    made : MakesSteps w w' k p p.fresh
    made = ending.ended_made asked w.end j.room E F.fits (ending.makes asked w.end j.room) (ending.notes asked w.end j.room)
        (record { tree = ending.node_ends asked w.end j.room; task_out = lets_go w w' (last_entry k p) I asked.free refl; outputs = refl; end = refl; used = refl; steps = last_steps w p })

    pub alone_world : IsSharedValue w'
    alone_world = steps_world I F asked.free made

    pub alone_ends : EndsChild w w' k p None
    alone_ends = record {
      enters = record { journal = refl; program = refl; settings = refl; halted = refl };
      goes = still_goes I asked.free made.enters alone_world (steps.on asks) refl;
      resumed = sym (ap (λ (i : Ledger). running_parent i.machine.tasks t) (accounts_are I asked.free made.enters) ∙ parent_then);
      others = steps_others I F asked.free made;
    }
