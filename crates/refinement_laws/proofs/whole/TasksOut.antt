-- Which task a worker holds, by the accounts of heaps.
use Rattle.refinement_laws.proofs.Common.{◌≡◌, ◌+◌, ℕ, zero, suc, Bool, true, false, cond, arith, Option, Some, None, List, [], ◌∷◌, slice_get, refl, ap, sym, ◌∙◌, false≢true, same_Some, none_some, Heap, Ledger, heap_of, or_fresh, out_from, option_is, held_is, is_held, TasksOutAreTold}

-- if no heap is found, the worker holds none
none_from : (w k : ℕ) (hs : List Heap) → out_from w k hs ≡ None → (u : ℕ) → (or_fresh (slice_get hs u)).worker ≡ Some w → ⊥
none_from w k [] e u h = none_some h
none_from w k (x ∷ hs) e u h = none_from_by_cases (λ q i. none_from w (k + 1) hs q i) u (option_is x.worker w) refl h e
  where
    none_from_by_cases : (out_from w (k + 1) hs ≡ None → (i : ℕ) → (or_fresh (slice_get hs i)).worker ≡ Some w → ⊥) → (u : ℕ) (b : Bool) → option_is x.worker w ≡ b → (or_fresh (slice_get (x ∷ hs) u)).worker ≡ Some w → cond b (Some k) (out_from w (k + 1) hs) ≡ None → ⊥
    none_from_by_cases more u true q h e = none_some (sym e)
    none_from_by_cases more zero false q h e = false≢true (sym q ∙ is_held x.worker w h)
    none_from_by_cases more (suc u) false q h e = more e u h

pub none_held : (l : Ledger) (w : ℕ) → out_from w 0 l.heaps ≡ None → (u : ℕ) → (heap_of l u).worker ≡ Some w → ⊥
none_held l w e u h = none_from w 0 l.heaps e u h

-- if one is found, the worker holds it
some_from : (w k t : ℕ) (hs : List Heap) → out_from w k hs ≡ Some t → (u : ℕ) × (t ≡ k + u) × ((or_fresh (slice_get hs u)).worker ≡ Some w)
some_from w k t [] e = none_some e
some_from w k t (x ∷ hs) e = some_from_by_cases (λ q. some_from w (k + 1) t hs q) (option_is x.worker w) refl e
  where
    some_from_by_cases : (out_from w (k + 1) hs ≡ Some t → (u : ℕ) × (t ≡ k + 1 + u) × ((or_fresh (slice_get hs u)).worker ≡ Some w)) → (b : Bool) → option_is x.worker w ≡ b → cond b (Some k) (out_from w (k + 1) hs) ≡ Some t → (u : ℕ) × (t ≡ k + u) × ((or_fresh (slice_get (x ∷ hs) u)).worker ≡ Some w)
    some_from_by_cases more true q e = (0, (let a : k ≡ t = same_Some k t e in omega (arith, a)), held_is x.worker w q)
    some_from_by_cases more false q e = let r = more e in (suc r.0, (let a : t ≡ k + 1 + r.0 = r.1 in omega (arith, a)), r.2)

pub tasks_out_are_told : TasksOutAreTold
tasks_out_are_told c l T w = tasks_out_are_told_by_cases (out_from w 0 l.heaps) refl
  where
    none_in : (o : Option ℕ) → c.task_out w ≡ o → out_from w 0 l.heaps ≡ None → o ≡ None
    none_in None q e = refl
    none_in (Some t) q e = absurd (none_held l w e t ((T.task_out w t).0 q))

    tasks_out_are_told_by_cases : (o : Option ℕ) → out_from w 0 l.heaps ≡ o → c.task_out w ≡ o
    tasks_out_are_told_by_cases None e = none_in (c.task_out w) refl e
    tasks_out_are_told_by_cases (Some t) e =
        let r = some_from w 0 t l.heaps e in
        let same : t ≡ r.0 = (let a : t ≡ 0 + r.0 = r.1 in omega (arith, a)) in
        (T.task_out w t).1 (ap (λ z. (heap_of l z).worker) same ∙ r.2)
