-- What a store finds: the object that a register of the running task holds.
use Rattle.refinement.proofs.Common.{◌≡◌, ℕ, ℤ, ◌+◌, Bool, true, false, Option, Some, None, List, ◌∷◌, slice_get, slice_set, ◌⊎◌, inl, inr, refl, ap, sym, subst, ◌∙◌, cases_eq, same_Some, Addr, Name, Frame as ModelFrame, Object, Running, Task, object_at, ref_in, task_names, is_waiting, is_joined, is_on_path, at_in, names_run, in_registers, runs_live, Ledger, heap_of, SoundLedger, CallFrame, own, Rests, onward_with, ref_of, leaf_alone, Memory, In, sources, Lies, ReadsReference, FrameIsRead, FramesAreRead, HoldsRead, TaskIsRead, LiesWithOwner, MemoryStands, gone_on}
use Rattle.refinement.proofs.objects.Carry.{field_of}

-- a frame that goes on is read as before, except for the register that is set
pub goes_on : (at : Name → Addr → Type 0) (c : Option (ℕ × ℤ)) (f : CallFrame) (z : ModelFrame) → FrameIsRead at f z → FrameIsRead at (gone_on c f) (onward_with c z)
goes_on at None f z R = record { function = R.function; next = ap (λ k. k + 1) R.next; ints = R.ints; refs = R.refs }
goes_on at (Some c) f z R = record { function = R.function; next = ap (λ k. k + 1) R.next; ints = ap (λ ns. slice_set ns c.0 c.1) R.ints; refs = R.refs }

module _ (v : Memory) (l : Ledger) (t : ℕ) (x : Task) (n : Name) (o : ℕ) (f : CallFrame) (fs : List CallFrame) (a : Addr) (S : SoundLedger l) (V : MemoryStands v l) (rests : Rests l t)
    (is : slice_get l.machine.tasks t ≡ Some x) (runs : x.status ≡ Running) (held : ref_in x.top o ≡ Some n) (waiters : (u : ℕ) → is_waiting (slice_get l.machine.tasks u) ≡ true → Rests l u)
    (frames_are : (v.belongings t).frames ≡ f ∷ fs) (at_a : ref_of f o ≡ Some a) where
  pub frames : FramesAreRead (LiesWithOwner v l) (f ∷ fs) (x.top ∷ x.below)
  frames = subst (λ zs. FramesAreRead (LiesWithOwner v l) zs (x.top ∷ x.below)) frames_are (subst (HoldsRead (LiesWithOwner v l) (v.belongings t) x) runs (V.tasks t x rests is))

  pub holds : (j : ℕ) (m : Name) → ref_in x.top j ≡ Some m → In (task_names x) m
  holds j m e = names_run x m runs (in_registers (x.top ∷ x.below) x.top m (inl refl) (at_in x.top.refs j m e))

  -- a register is read through the map
  pub reads : (j : ℕ) → ReadsReference (LiesWithOwner v l) (ref_of f j) (ref_in x.top j)
  reads j = field_of (LiesWithOwner v l) f.refs x.top.refs j frames.0.refs

  pub place : LiesWithOwner v l n a
  place = subst (λ z. ReadsReference (LiesWithOwner v l) z (Some n)) at_a (subst (ReadsReference (LiesWithOwner v l) (ref_of f o)) held (reads o))

  -- no worker holds the owner of the object
  pub rests_n : Rests l (own l n)
  rests_n = elim (cases_eq (own l n) t) [
    | inl e ↦ ap (λ z. (heap_of l z).worker) e ∙ rests
    | inr ne ↦ waiters (own l n) (on_way ne)
  ]
    where
      on_way : (own l n ≡ t → ⊥) → is_waiting (slice_get l.machine.tasks (own l n)) ≡ true
      on_way ne = on_way_by_cases (is_waiting (slice_get l.machine.tasks (own l n))) refl
        where
          live : is_joined (slice_get l.machine.tasks t) ≡ false
          live = runs_live x is runs

          on_way_by_cases : (b : Bool) → is_waiting (slice_get l.machine.tasks (own l n)) ≡ b → b ≡ true
          on_way_by_cases true e = refl
          on_way_by_cases false e = absurd (ne (leaf_alone l S (own l n) t e live (S.apart.of_task t x n is (holds o n held)).1))

  -- what a field of the object refers to is on the path of its owner, or the field is remembered
  pub minded : (y : Object) (j : ℕ) (r : Name) → object_at l.machine.store n ≡ Some y → slice_get y.refs j ≡ Some (Some r) → (is_on_path l.machine.tasks (own l r) (own l n) ≡ true) ⊎ In (sources v (own l r)) (record { object = a; field = j })
  minded y j r was e = at_old (place.here rests_n)
    where
      at_old : Lies (v.belongings (own l n)).chunks n a → (is_on_path l.machine.tasks (own l r) (own l n) ≡ true) ⊎ In (sources v (own l r)) (record { object = a; field = j })
      at_old q =
          subst (λ (c : Addr). (is_on_path l.machine.tasks (own l r) (own l n) ≡ true) ⊎ In (sources v (own l r)) (record { object = c; field = j })) q.2.at
          (V.remembered (own l n) q.0 y j r rests_n q.1 (ap (object_at l.machine.store) q.2.name ∙ was) e)

  -- the task goes on, with a number in one of its registers if the step sets one
  pub task_on : (v' : Memory) (l' : Ledger) (c : Option (ℕ × ℤ)) → slice_get l'.machine.tasks t ≡ Some (record x { top = onward_with c x.top }) → (v'.belongings t).frames ≡ gone_on c f ∷ fs → (z : Task) → slice_get l'.machine.tasks t ≡ Some z → TaskIsRead (LiesWithOwner v l) (v'.belongings t) z
  task_on v' l' c goes gone z e =
      let z' : Task = record x { top = onward_with c x.top } in
      subst (λ (k : Task). TaskIsRead (LiesWithOwner v l) (v'.belongings t) k) (same_Some z' z (sym goes ∙ e))
      (subst (HoldsRead (LiesWithOwner v l) (v'.belongings t) z') (sym runs)
      (subst (λ gs. FramesAreRead (LiesWithOwner v l) gs (onward_with c x.top ∷ x.below)) (sym gone)
      (goes_on (LiesWithOwner v l) c f x.top frames.0, frames.1)))
