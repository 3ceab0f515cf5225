-- How a step changes the heaps after the account of its allocation.
use Rattle.run_ledger.proofs.Common.{◌≡◌, ℕ, zero, suc, ◌+◌, ◌<◌, true, false, Some, List, [], ◌∷◌, ◌++◌, slice_get, slice_set, ◌⊎◌, inl, inr, ap, sym, subst, ◌∙◌, is_some, same_Some, got_cases, Name, Task, waiting, Heap, fresh, forked_heap, merged, emptied, let_go}

-- the worker releases the task t, which has ended before its sibling
pub record LetsGo (t : ℕ) (heaps heaps' : List Heap) : Type 0 where
  pub heap : Heap
  pub at : slice_get heaps t ≡ Some heap
  pub is : heaps' ≡ slice_set heaps t (let_go heap)

-- the task t forks
pub record Forks (t : ℕ) (heaps heaps' : List Heap) : Type 0 where
  pub heap : Heap
  pub names : List Name
  pub at : slice_get heaps t ≡ Some heap
  pub is : heaps' ≡ slice_set (heaps ++ fresh ∷ fresh ∷ []) t (forked_heap names heap)

-- both children join their parent, which waits; none of the three is in a leaf collection
pub record Joins (tasks : List Task) (heaps heaps' : List Heap) : Type 0 where
  pub parent : ℕ
  pub child : ℕ
  pub own : Heap
  pub left : Heap
  pub right : Heap
  pub under : parent < child
  pub waits : waiting tasks parent ≡ true
  pub idle_parent : is_some own.begun ≡ false
  pub idle_left : is_some left.begun ≡ false
  pub idle_right : is_some right.begun ≡ false
  pub at_parent : slice_get heaps parent ≡ Some own
  pub at_left : slice_get heaps child ≡ Some left
  pub at_right : slice_get heaps (child + 1) ≡ Some right
  pub is : heaps' ≡ slice_set (slice_set (slice_set heaps parent (merged own left right)) child (emptied left)) (child + 1) (emptied right)

abbrev pub Moves : ℕ → List Task → List Heap → List Heap → Type 0
Moves t tasks heaps heaps' = (heaps' ≡ heaps) ⊎ (LetsGo t heaps heaps' ⊎ (Forks t heaps heaps' ⊎ Joins tasks heaps heaps'))

-- a property of every heap is kept if each of these changes keeps it
pub moves_each : (Q : ℕ → Heap → Type 0) (t : ℕ) (tasks : List Task) (heaps heaps' : List Heap) → Moves t tasks heaps heaps'
    → ((u : ℕ) (h : Heap) → slice_get heaps u ≡ Some h → Q u h) → ((h : Heap) → Q t h → Q t (let_go h)) → ((u : ℕ) → Q u fresh) → ((ns : List Name) (h : Heap) → Q t h → Q t (forked_heap ns h))
    → ((u : ℕ) (h l r : Heap) (v w : ℕ) → slice_get heaps u ≡ Some h → waiting tasks u ≡ true → is_some h.begun ≡ false → Q u h → Q v l → Q w r → Q u (merged h l r))
    → ((u : ℕ) (h : Heap) → is_some h.begun ≡ false → Q u h → Q u (emptied h))
    → (u : ℕ) (h : Heap) → slice_get heaps' u ≡ Some h → Q u h
moves_each Q t tasks heaps heaps' (inl e) each go new fork merge empty u h is = each u h (ap (λ hs. slice_get hs u) (sym e) ∙ is)
moves_each Q t tasks heaps heaps' (inr (inl m)) each go new fork merge empty u h is =
    elim (got_cases heaps t u (let_go m.heap) h (ap (λ hs. slice_get hs u) (sym m.is) ∙ is)) [
      | inl e ↦ subst (λ v. Q v h) (sym e.0) (subst (Q t) (sym e.1) (go m.heap (each t m.heap m.at)))
      | inr old ↦ each u h old
    ]
moves_each Q t tasks heaps heaps' (inr (inr (inl f))) each go new fork merge empty u h is =
    elim (got_cases (heaps ++ fresh ∷ fresh ∷ []) t u (forked_heap f.names f.heap) h (ap (λ hs. slice_get hs u) (sym f.is) ∙ is)) [
      | inl e ↦ subst (λ v. Q v h) (sym e.0) (subst (Q t) (sym e.1) (fork f.names f.heap (each t f.heap f.at)))
      | inr old ↦ elim (pushed heaps u h old) [ inl before ↦ each u h before | inr e ↦ subst (Q u) (sym e) (new u) ]
    ]
  where
    pushed : (hs : List Heap) (v : ℕ) (z : Heap) → slice_get (hs ++ fresh ∷ fresh ∷ []) v ≡ Some z → (slice_get hs v ≡ Some z) ⊎ (z ≡ fresh)
    pushed [] zero z e = inr (sym (same_Some fresh z e))
    pushed [] (suc zero) z e = inr (sym (same_Some fresh z e))
    pushed [] (suc (suc v)) z e = absurd cc
    pushed (k ∷ hs) zero z e = inl e
    pushed (k ∷ hs) (suc v) z e = pushed hs v z e
moves_each Q t tasks heaps heaps' (inr (inr (inr j))) each go new fork merge empty u h is =
    elim (got_cases (slice_set (slice_set heaps j.parent (merged j.own j.left j.right)) j.child (emptied j.left)) (j.child + 1) u (emptied j.right) h (ap (λ hs. slice_get hs u) (sym j.is) ∙ is)) [
      | inl e ↦ subst (Q u) (sym e.1) (empty u j.right j.idle_right (each u j.right (ap (slice_get heaps) e.0 ∙ j.at_right)))
      | inr other ↦ elim (got_cases (slice_set heaps j.parent (merged j.own j.left j.right)) j.child u (emptied j.left) h other) [
        | inl e ↦ subst (Q u) (sym e.1) (empty u j.left j.idle_left (each u j.left (ap (slice_get heaps) e.0 ∙ j.at_left)))
        | inr other' ↦ elim (got_cases heaps j.parent u (merged j.own j.left j.right) h other') [
          | inl e ↦
              let at : slice_get heaps u ≡ Some j.own = ap (slice_get heaps) e.0 ∙ j.at_parent in
              subst (Q u) (sym e.1) (merge u j.own j.left j.right j.child (j.child + 1) at (ap (waiting tasks) e.0 ∙ j.waits) j.idle_parent (each u j.own at) (each j.child j.left j.at_left) (each (j.child + 1) j.right j.at_right))
          | inr old ↦ each u h old
        ]
      ]
    ]
