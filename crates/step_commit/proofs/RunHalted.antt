-- The run ends by a trap, or by a stopped read.
use Rattle.step_commit.proofs.Common.{◌≡◌, ℕ, ◌+◌, ◌++◌, Some, [], ◌∷◌, refl, ap, sym, ◌∙◌, same_Some, ReservedVecValue, End, Done, MachineState, ended_by, step, EntryValue, Machine, task_steps, Halting, Halts, RunsPrivateSteps, Private, SharedValue, accounts, IsSharedValue, same_form, MakesSteps, steps_others, steps_part, steps_world, all_kept, end_now, HaltsAlone, alone_entry}
use Rattle.step_commit.proofs.LastStepEntry as last
use Rattle.step_commit.proofs.LastStepEntry.{AsksLast, last_enters, last_steps}
use Rattle.step_commit.proofs.OtherStepKinds.{halts_by}

module _ {w : SharedValue} {k : ℕ} {p : Private} (asks : AsksLast w k p) (x : End) (other : x ≡ Done → ⊥) (is : step w.program (task_steps w.program (accounts w) p.task p.fresh).machine p.task ≡ ended_by (task_steps w.program (accounts w) p.task p.fresh).machine x) where
  open asks use {I, F, free}
  open (last.names asks) use {t, l, M, L, S}

  machine_is : L.machine ≡ ended_by M.machine x
  machine_is = last.machine_then asks ∙ is

  H : Halts M L
  H = halts_by w.program M L t S.task S.line (last.is_not_private asks) x other machine_is S.kind S.last S.on

  -- how the entry splits
  abbrev E : RunsPrivateSteps w.program w.settings l L t k p.fresh
  E = record (last.runs_so asks) { splits = record S { kind = Halting; last = H; apart = last.is_not_private asks; on = λ b. absurd b } }

  end_same : x ≡ H.end
  end_same = sym (same_Some H.end x (ap (λ (m : MachineState). m.end) (sym H.machine ∙ machine_is)))

  module _ (j : ReservedVecValue EntryValue) where
    abbrev pub halted : SharedValue
    halted = record w { steps = w.steps + (p.fresh + 1); journal = record { items = w.journal.items ++ alone_entry k p ∷ []; room = j.room }; end = Some (Machine x) }

    abbrev made : MakesSteps w halted k p p.fresh
    made = record {
      enters = last_enters w halted k p (record { journal = refl; program = refl; settings = refl; halted = refl });
      form = same_form I refl refl (all_kept w.pool);
      units = λ u q ne G. G.measured;
      runs = E;
      own = F.fits;
      makes = refl;
      notes = tt;
      counts = record { tree = λ u. refl; task_out = λ u. refl; outputs = refl; end = ap (λ y. Some (Machine y)) end_same; used = refl; steps = last_steps w p };
    }

    pub halt_world : IsSharedValue halted
    halt_world = steps_world I F free made

    -- the part is as before the step, without fresh steps
    pub halts_alone : HaltsAlone w halted k p (record p { fresh = 0 })
    halts_alone = record {
      enters = record { journal = refl; program = refl; settings = refl; halted = refl };
      halts = (x, sym (end_now halted halt_world), other);
      fits = steps_part I F free made p.frames refl F.measured refl;
      part = refl;
      others = steps_others I F free made;
    }
