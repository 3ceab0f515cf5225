-- What is reachable within a heap is what is reachable through all that its task owns.
use Rattle.journal_laws.proofs.Common.{◌≡◌, ℕ, true, Option, Some, None, List, ◌∷◌, slice_get, Contains, filter, ◌⊎◌, inl, inr, refl, sym, subst, ◌∙◌, flat_map, false≢true, In, in_append_cases, in_from_kept, flat_in, got_in, Name, TaskStatus, Running, Waiting, Ended, Joined, Task, refs_at, registers, names_from, task_names, runs, waits, is_running, is_waiting, owner_of, Ledger, held, held_in, heap_of, frames_of, roots_of, within, is_proper_ancestor, RunsOrWaits, SomeHeapHas, InHeaps, SoundLedger, held_keeps}

module _ (l : Ledger) (S : SoundLedger l) (t : ℕ) where
  abbrev names : List Name
  names = held_in (heap_of l t)

  -- what a task that runs or waits holds is in its registers
  names_by : (x : Task) (r : Name) (s : TaskStatus) → x.status ≡ s → (runs s ≡ true) ⊎ (waits s ≡ true) → In (registers (x.top ∷ x.below)) r → In (task_names x) r
  names_by x r Running e work i = subst (λ v. In (names_from v (x.top ∷ x.below)) r) (sym e) i
  names_by x r Waiting e work i = subst (λ v. In (names_from v (x.top ∷ x.below)) r) (sym e) i
  names_by x r (Ended k n) e (inl w) i = absurd (false≢true w)
  names_by x r (Ended k n) e (inr w) i = absurd (false≢true w)
  names_by x r Joined e (inl w) i = absurd (false≢true w)
  names_by x r Joined e (inr w) i = absurd (false≢true w)

  register_kept : (o : Option Task) → slice_get l.machine.tasks t ≡ o → (is_running o ≡ true) ⊎ (is_waiting o ≡ true) → (r : Name) → In (registers (frames_of o)) r → SomeHeapHas l.heaps r
  register_kept None e work r i = absurd i
  register_kept (Some x) e work r i = S.all.of_task t x r e (names_by x r x.status refl work i)

  root_kept : RunsOrWaits l t → (r : Name) → In (roots_of l t) r → SomeHeapHas l.heaps r
  root_kept work r i =
      let above : List Name = filter (λ n. is_proper_ancestor l.machine.tasks (owner_of l.machine.tasks n.task) t) (held l) in
      elim (in_append_cases (registers (frames_of (slice_get l.machine.tasks t))) (flat_map (refs_at l.machine.store) above) r i) [
        | inl j ↦ register_kept (slice_get l.machine.tasks t) refl work r j
        | inr j ↦
            let f = flat_in (refs_at l.machine.store) above r j in
            let n : Name = f.1 in
            let h = in_from_kept (λ n. is_proper_ancestor l.machine.tasks (owner_of l.machine.tasks n.task) t) (held l) n (got_in above f.0 n f.2) in
            S.all.of_object n r (held_keeps l n h.0) f.3
      ]

  owned_in : (n : Name) → SomeHeapHas l.heaps n → owner_of l.machine.tasks n.task ≡ t → In names n
  owned_in n k e = subst (λ u. InHeaps l.heaps u n) (sym (S.owners k.0 n k.1).1 ∙ e) k.1

  owner_is : (n : Name) → In names n → owner_of l.machine.tasks n.task ≡ t
  owner_is n i = (S.owners t n i).1
