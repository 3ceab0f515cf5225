-- A task is taken, and private steps are committed: the memory stands, and the part fits.
use Rattle.refinement.proofs.Common.{◌≡◌, ℕ, arith, false, Some, None, length, slice_get, inl, inr, refl, ap, sym, ◌∙◌, cases_eq, ProgramText, SettingsValue, MachineState, row_of, is_joined, is_waiting, Heap, Ledger, heap_of, or_fresh, with_heap, let_go, task_steps, heap_machine, Rests, rested, heap_then, with_at, with_off, took_takes, Belongings, Memory, objects_of_chunks, MemoryStands, Part, FitsAt, with_belongings, part_for}
use Rattle.refinement.proofs.changes.Alone.{belongings_kept}
use Rattle.refinement.proofs.changes.Release.{released}
use Rattle.refinement.proofs.changes.Renew.{renewed}
use Rattle.refinement.proofs.changes.UpdateOneTask.{at_belongings, off_belongings}

-- TAKEN

module _ (p : ProgramText) (s : SettingsValue) (v : Memory) (l : Ledger) (t w : ℕ) (h : Heap) (is : slice_get l.heaps t ≡ Some h) (V : MemoryStands v l) (rests : Rests l t) (idle : is_waiting (slice_get l.machine.tasks t) ≡ false) where
  abbrev l' : Ledger
  l' = with_heap l t (λ h. record h { worker = Some w })

  abbrev back : Ledger
  back = rested l' t

  free : h.worker ≡ None
  free = sym (ap (λ o. (or_fresh o).worker) is) ∙ rests

  -- released again, the account is as it was
  heap_back : (u : ℕ) → heap_of back u ≡ heap_of l u
  heap_back u = elim (cases_eq u t) [
    | inl e ↦
        ap (heap_of back) e
        ∙ (ap or_fresh (with_at l' t let_go ∙ (ap (heap_then let_go) (with_at l t (λ h. record h { worker = Some w }) ∙ ap (heap_then (λ h. record h { worker = Some w })) is)))
        ∙ (ap (λ z. record h { worker = z }) (sym free) ∙ (ap or_fresh (sym is) ∙ ap (heap_of l) (sym e))))
    | inr ne ↦ ap or_fresh (with_off l' t u let_go ne ∙ with_off l t u (λ h. record h { worker = Some w }) ne)
  ]

  machine_back : back.machine ≡ l.machine
  machine_back = heap_machine l' t let_go ∙ heap_machine l t (λ h. record h { worker = Some w })

  abbrev q : Part
  q = part_for s t (v.belongings t) 0

  same_belongings : (u : ℕ) → (with_belongings v t (v.belongings t)).belongings u ≡ v.belongings u
  same_belongings u = elim (cases_eq u t) [
    | inl e ↦ ap (with_belongings v t (v.belongings t)).belongings e ∙ (at_belongings v t (v.belongings t) ∙ ap v.belongings (sym e))
    | inr ne ↦ off_belongings v t (v.belongings t) u ne
  ]

  pub took_fits : FitsAt p s q v l'
  took_fits = record {
    worker = w;
    out = (took_takes l t w h is).worker;
    few = omega arith;
    private = tt;
    stands = renewed v (with_belongings v t (v.belongings t)) l back V
        (record { machine = machine_back; worker = λ u. ap (λ (z : Heap). z.worker) (heap_back u); snapshot = λ u. ap (λ (z : Heap). z.snapshot) (heap_back u) })
        (record {
          belongings = λ u r. belongings_kept v (with_belongings v t (v.belongings t)) l back u (same_belongings u) (λ k e. e) (heap_back u) (ap (λ (m : MachineState). length (row_of (slice_get m.store u))) machine_back) (ap (λ (m : MachineState). is_joined (slice_get m.tasks u)) machine_back) (V.belongings u (ap (λ (z : Heap). z.worker) (sym (heap_back u)) ∙ r));
          objects = λ u. ap (λ (z : Belongings). objects_of_chunks z.chunks) (same_belongings u);
          chunks = λ u e. ap (λ (z : Belongings). length z.chunks) (same_belongings u);
          frames = λ u. ap (λ (z : Belongings). z.frames) (same_belongings u);
          result = λ u. ap (λ (z : Belongings). z.result) (same_belongings u);
          view = λ u. ap (λ (z : Belongings). z.view) (same_belongings u);
          owner = λ k u e. e;
          taken = λ k u e. inl e;
          begun = λ u e. ap (λ (z : Belongings). z.begun) (same_belongings u);
          sources = λ u. refl;
        });
  }

-- PRIVATE STEPS ARE COMMITTED: the part's steps are no longer fresh
module _ (p : ProgramText) (s : SettingsValue) (q : Part) (v : Memory) (l : Ledger) (w : ℕ) (F : FitsAt p s q v l) (out : (heap_of (task_steps p l q.task q.fresh) q.task).worker ≡ Some w) where
  abbrev then_ : Ledger
  then_ = task_steps p l q.task q.fresh

  abbrev entered_frames : Part
  entered_frames = record q { fresh = 0 }

  pub ran_fits : FitsAt p s entered_frames v then_
  ran_fits = record { worker = w; out = out; few = omega arith; private = tt; stands = F.stands }

  -- and the memory stands without it
  pub ran_stands : is_waiting (slice_get then_.machine.tasks q.task) ≡ false → MemoryStands v then_
  ran_stands idle =
      released (with_belongings v q.task q.belongings) v (rested then_ q.task) then_ q.task w F.stands (ap (λ (m : MachineState). is_waiting (slice_get m.tasks q.task)) (heap_machine then_ q.task let_go) ∙ idle)
      (record { machine = sym (heap_machine then_ q.task let_go); worker = out; heaps = λ u ne. ap or_fresh (sym (with_off then_ q.task u let_go ne)) })
      (record { belongings = λ u ne. sym (off_belongings v q.task q.belongings u ne); owner = λ k. refl; sources = λ u. refl })
