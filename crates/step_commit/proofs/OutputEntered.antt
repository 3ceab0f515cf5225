-- An output is committed.
use Rattle.step_commit.proofs.Common.{◌≡◌, ℕ, ℤ, ◌+◌, ◌++◌, true, Some, None, [], ◌∷◌, slice_get, slice_set, refl, ap, sym, ◌∙◌, got_same, ReservedVecValue, Instr, Out, MachineState, Task, effect, int_in, onward, follow, runs, setting, EntryValue, with_next, Printing, RunsPrivateSteps, StepsTo, numbers_go, Private, Prints as PrintsOf, SharedValue, IsSharedValue, belongings_of_part, same_form, MakesSteps, steps_world, all_kept, GoesAlone, EndingTells, alone_entry, LastStepPrints}
use Rattle.step_commit.proofs.LastKinds.{prints}
use Rattle.step_commit.proofs.LastStepEntry as last
use Rattle.step_commit.proofs.LastStepEntry.{AsksLast, goes_alone, last_enters, last_steps}

abbrev register_of : Instr → ℕ
register_of (Out a) = a
register_of _ = 0

module _ {w : SharedValue} {k : ℕ} {p : Private} (asks : AsksLast w k p) (value : ℤ) (number : ℕ) (T : EndingTells w p (PrintsOf value) number) where
  open asks use {I, F, free}
  open (last.names asks) use {t, l, M, L, v, h, S}

  says : (a : ℕ) × (S.line.instr ≡ Out a) × (value ≡ int_in S.task.top a)
  says = (last.said asks (PrintsOf value) number T).1

  abbrev register : ℕ
  register = says.0

  -- the machine afterwards
  abbrev z : Task
  z = record S.task { top = onward S.task.top }

  abbrev m' : MachineState
  m' = record M.machine { tasks = slice_set M.machine.tasks t z; outputs = M.machine.outputs ++ int_in S.task.top register ∷ [] }

  machine_is : L.machine ≡ m'
  machine_is =
      last.machine_then asks
      ∙ (last.taken asks ∙ ap (λ (i : Instr). follow M.machine t S.task S.line.number (effect (setting M.machine t S.task) S.task.top M.machine.store i)) says.1)

  goes_then : L.machine.end ≡ None
  goes_then = ap (λ (m : MachineState). m.end) machine_is ∙ last.mid_goes asks

  at_then : slice_get L.machine.tasks t ≡ Some z
  at_then = ap (λ (m : MachineState). slice_get m.tasks t) machine_is ∙ got_same M.machine.tasks t S.task z S.at.task

  runs_then : runs z.status ≡ true
  runs_then = ap runs S.at.runs

  Q : LastStepPrints M L t S.task S.line
  Q = prints w.program M L t S.task S.line (last.is_not_private asks) register says.1 z at_then runs_then goes_then S.kind S.last

  -- how the entry splits
  abbrev E : RunsPrivateSteps w.program w.settings l L t k p.fresh
  E = record (last.runs_so asks) { splits = record S { kind = Printing; last = Q; apart = last.is_not_private asks; on = λ u. goes_then } }

  -- it prints what the part has in its register
  value_is : value ≡ int_in S.task.top Q.register
  value_is = says.2 ∙ ap (int_in S.task.top) (ap register_of (sym says.1 ∙ Q.by))

  module _ (j : ReservedVecValue EntryValue) where
    abbrev pub printed : SharedValue
    printed = record w { outputs = w.outputs ++ value ∷ []; steps = w.steps + (p.fresh + 1); journal = record { items = w.journal.items ++ alone_entry k p ∷ []; room = j.room } }

    abbrev made : MakesSteps w printed k p p.fresh
    made = record {
      enters = last_enters w printed k p (record { journal = refl; program = refl; settings = refl; halted = refl });
      form = same_form I refl refl (all_kept w.pool);
      units = λ u q ne G. G.measured;
      runs = E;
      own = F.fits;
      makes = refl;
      notes = tt;
      counts = record { tree = λ u. refl; task_out = λ u. refl; outputs = ap (λ x. w.outputs ++ x ∷ []) value_is; end = refl; used = refl; steps = last_steps w p };
    }

    pub printed_world : IsSharedValue printed
    printed_world = steps_world I F free made

    -- THE PART, whose frame goes on
    abbrev q : Private
    q = record p { frames = with_next p.frames (p.frames.top.next + 1); fresh = 0 }

    belongings_go_on : StepsTo v L t h (belongings_of_part q)
    belongings_go_on =
        numbers_go w.program w.settings v l L t k p.fresh h E F.fits p.frames.top p.frames.below None (M.machine.outputs ++ int_in S.task.top Q.register ∷ []) Q.alone Q.goes refl

    pub printed_goes : GoesAlone w printed k p q
    printed_goes = goes_alone I F free made q.frames refl refl refl belongings_go_on
