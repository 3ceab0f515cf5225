-- What heaps hold, counted by the names of stored objects, and by the heaps of tasks that don't run.
use Rattle.journal_laws.proofs.Common.{◌≡◌, ℕ, ◌+◌, ◌≤◌, Bool, true, false, cond, List, [], ◌∷◌, ◌++◌, slice_get, length, inl, refl, ap, arith, inr, flat_map, sum_by-cons, In, Name, MachineState, Task, IsStored, is_running, Heap, held_in, object_words_of, words_at, words_sum, held_not_running_from}

-- there are at most as many names of stored objects as words of these
pub stored_most : (m : MachineState) (ns : List Name) → ((n : Name) → In ns n → IsStored m n) → length ns ≤ words_sum m ns
stored_most m [] stored = omega arith
stored_most m (n ∷ ns) stored =
    let o = stored n (inl refl) in
    let a : words_at m n ≡ 2 + length o.0.refs + length o.0.ints = ap object_words_of o.1 in
    let b = sum_by-cons (words_at m) n ns in
    let c = stored_most m ns (λ k i. stored k (inr i)) in
    omega arith

-- tasks that don't run hold no more than all tasks
module _ (g : List Name → ℕ) (add : (xs ys : List Name) → g (xs ++ ys) ≡ g xs + g ys) where
  pub kept_least : (tasks : List Task) (heaps : List Heap) (t : ℕ) → g (held_not_running_from tasks heaps t) ≤ g (flat_map held_in heaps)
  kept_least tasks [] t = omega arith
  kept_least tasks (h ∷ hs) t = kept_least_by_cases (is_running (slice_get tasks t)) (kept_least tasks hs (t + 1)) (add (held_in h) (flat_map held_in hs)) (add (held_in h) (held_not_running_from tasks hs (t + 1)))
    where
      kept_least_by_cases : (b : Bool) → g (held_not_running_from tasks hs (t + 1)) ≤ g (flat_map held_in hs) → g (held_in h ++ flat_map held_in hs) ≡ g (held_in h) + g (flat_map held_in hs)
          → g (held_in h ++ held_not_running_from tasks hs (t + 1)) ≡ g (held_in h) + g (held_not_running_from tasks hs (t + 1))
          → g (cond b (held_not_running_from tasks hs (t + 1)) (held_in h ++ held_not_running_from tasks hs (t + 1))) ≤ g (held_in h ++ flat_map held_in hs)
      kept_least_by_cases true r a b = omega arith
      kept_least_by_cases false r a b = omega arith
