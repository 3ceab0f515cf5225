-- The root's last frame returns, and the run is done: the root is returned.
use Rattle.step_commit.proofs.Common.{◌≡◌, ℕ, ◌<◌, arith, Option, Some, None, List, [], slice_get, refl, ap, sym, subst, ◌∙◌, got_same, ReservedVecValue, Instr, Ret, Done, Frame, MachineState, Task, effect, ended_by, ended_task, follow, last_of, last_return, parent_of, result_of, returned_to, runs, setting, with_task, EntryValue, Ledger, RunEnd, Machine, Rests, LastStepEndsRun, Finishing, RunsPrivateSteps, handed, done_returns_all, Private, Returns, SharedValue, IsSharedValue, end_now, accounts_are, MakesSteps, steps_others, steps_world, lets_go, FinishesAlone, EndingTells}
use Rattle.step_commit.proofs.LastKinds.{done}
use Rattle.step_commit.proofs.LastStepEntry as last
use Rattle.step_commit.proofs.LastStepEntry.{AsksLast, last_entry, last_steps}
use Rattle.step_commit.proofs.TaskEnds as ending

no_parent : (par : ℕ → Option ℕ) → ((t p : ℕ) → par t ≡ Some p → p < t) → (t : ℕ) → t ≡ 0 → (o : Option ℕ) → par t ≡ o → o ≡ None
no_parent par low t z None e = refl
no_parent par low t z (Some q) e = let lt : q < t = low t q e in absurd (omega (arith, z, lt))

module _ {w : SharedValue} {k : ℕ} {p : Private} (asks : AsksLast w k p) (number : ℕ) (T : EndingTells w p Returns number) (root : p.task ≡ 0) where
  open asks use {I, F, free}
  open (last.names asks) use {t, l, M, L, S}

  says : (S.line.instr ≡ Ret) × (S.task.below ≡ [])
  says = (last.said asks Returns number T).1

  parent : S.task.parent ≡ None
  parent = no_parent (λ u. parent_of (slice_get M.machine.tasks u)) (last.knows_mid asks).sound.fork_join.tree.low t root S.task.parent (ap parent_of S.at.task)

  abbrev z : Task
  z = ended_task S.task (result_of S.task.top)

  abbrev m' : MachineState
  m' = ended_by (with_task M.machine t z) Done

  machine_is : L.machine ≡ m'
  machine_is =
      last.machine_then asks
      ∙ (last.taken asks
      ∙ (ap (λ (i : Instr). follow M.machine t S.task S.line.number (effect (setting M.machine t S.task) S.task.top M.machine.store i)) says.0
      ∙ (ap (λ (fs : List Frame). returned_to M.machine t S.task (last_of fs)) says.1 ∙ ap (last_return M.machine t S.task) parent)))

  at_then : slice_get L.machine.tasks t ≡ Some z
  at_then = ap (λ (m : MachineState). slice_get m.tasks t) machine_is ∙ got_same M.machine.tasks t S.task z S.at.task

  D : LastStepEndsRun M L t S.task
  D =
      done w.program M L t S.task S.line (last.is_not_private asks) (ap (λ (m : MachineState). m.end) machine_is) z at_then refl S.at.task (ap runs S.at.runs) S.kind S.last S.on

  -- how the entry splits
  abbrev E : RunsPrivateSteps w.program w.settings l L t k p.fresh
  E = record (last.runs_so asks) { splits = record S { kind = Finishing; last = D; apart = last.is_not_private asks; on = λ b. absurd b } }

  module _ (j : ReservedVecValue EntryValue) where
    abbrev end : Option RunEnd
    end = Some (Machine Done)

    abbrev pub w' : SharedValue
    w' = ending.w' asks end j.room

    made : MakesSteps w w' k p p.fresh
    made = ending.ended_made asks end j.room E F.fits (ending.makes asks end j.room) (ending.notes asks end j.room)
        (record { tree = ending.node_ends asks end j.room; task_out = lets_go w w' (last_entry k p) I free refl; outputs = refl; end = refl; used = refl; steps = last_steps w p })

    pub done_world : IsSharedValue w'
    done_world = steps_world I F free made

    -- every heap is returned
    pub finishes_alone : FinishesAlone w w' k p
    finishes_alone = record {
      enters = record { journal = refl; program = refl; settings = refl; halted = refl };
      done = sym (end_now w' done_world);
      rest = λ u. subst (λ (z : Ledger). Rests (handed z) u) (sym (accounts_are I free made.enters)) (done_returns_all w.program w.settings l L t k p.fresh E D.ended u);
      others = steps_others I F free made;
    }
