-- Sums over the held names, and how each change of the heaps changes them.
use Rattle.run_ledger.proofs.Common.{◌≡◌, ℕ, zero, suc, ◌+◌, ◌-◌, ◌<◌, ◌≤◌, Bool, true, false, cond, Option, Some, None, List, [], ◌∷◌, ◌++◌, map, slice_get, slice_set, filter, sum_by, inl, inr, refl, ap, sym, subst, ◌∙◌, arith, append-nil, flat_map, sum_by-append, sum_by-cons, flat_map-append, got_other, got_front, got_within, Name, Task, MachineState, Heap, holds_name, held_in, small_in, with_allocation, put_last, is_small_size, merged, emptied, let_go, forked_heap, fresh, collected, by_birth, insert_name, name_le, small_survivors, swept_heap, without_empty, in_snapshot}
use Rattle.run_ledger.proofs.Held.{laid_flat}
use Rattle.run_ledger.proofs.Moves.{Forks, Joins, Moves}

pub sum_flat : {A : Type 0} (f : Name → ℕ) (names : A → List Name) (xs : List A) → sum_by f (flat_map names xs) ≡ sum_by (λ x. sum_by f (names x)) xs
sum_flat f names [] = refl
sum_flat f names (x ∷ xs) =
    sum_by-append f (names x) (flat_map names xs) ∙ (ap (λ k. sum_by f (names x) + k) (sum_flat f names xs) ∙ sym (sum_by-cons (λ x. sum_by f (names x)) x xs))

-- ONE HEAP

module _ (f : Name → ℕ) where
  abbrev pub weight : Heap → ℕ
  weight h = sum_by f (held_in h)

  abbrev pub small_weight : List (List Name) → ℕ
  small_weight lists = sum_by f (flat_map (λ ns. ns) lists)

  pub weight_parts : (h : Heap) → weight h ≡ small_weight h.chunks + sum_by f h.large
  weight_parts h = sum_by-append f (small_in h) h.large

  one : (n : Name) → sum_by f (n ∷ []) ≡ f n
  one n = omega arith

  pub put_weight : (lists : List (List Name)) (n : Name) → small_weight (put_last lists n) ≡ small_weight lists + f n
  put_weight [] n = omega arith
  put_weight (ns ∷ []) n =
      let a = ap (sum_by f) (append-nil (ns ++ n ∷ [])) in
      let b = sum_by-append f ns (n ∷ []) in
      let c = ap (sum_by f) (append-nil ns) in
      let d = one n in
      omega arith
  put_weight (ns ∷ ms ∷ rest) n =
      let a = sum_by-append f ns (flat_map (λ ns. ns) (put_last (ms ∷ rest) n)) in
      let b = sum_by-append f ns (flat_map (λ ns. ns) (ms ∷ rest)) in
      let c = put_weight (ms ∷ rest) n in
      omega arith

  placed_by : (h : Heap) (n : Name) (w : ℕ) (b : Bool)
      → weight (cond b (record h { chunks = put_last h.chunks n; room = h.room - w; since = h.since + w }) (record h { large = h.large ++ n ∷ []; reserved = 0; since = h.since + w })) ≡ weight h + f n
  placed_by h n w true =
      let a = weight_parts (record h { chunks = put_last h.chunks n; room = h.room - w; since = h.since + w }) in
      let b = weight_parts h in
      let c = put_weight h.chunks n in
      omega arith
  placed_by h n w false =
      let a = weight_parts (record h { large = h.large ++ n ∷ []; reserved = 0; since = h.since + w }) in
      let b = weight_parts h in
      let c = sum_by-append f h.large (n ∷ []) in
      let d = one n in
      omega arith

  pub placed_weight : (h : Heap) (n : Name) (w : ℕ) → weight (with_allocation h n w) ≡ weight h + f n
  placed_weight h n w = placed_by h n w (is_small_size w)

  three : (a b c : List Name) → sum_by f (a ++ b ++ c) ≡ sum_by f a + sum_by f b + sum_by f c
  three a b c = let x = sum_by-append f (a ++ b) c in let y = sum_by-append f a b in omega arith

  pub three_lists : (a b c : List (List Name)) → small_weight (a ++ b ++ c) ≡ small_weight a + small_weight b + small_weight c
  three_lists a b c =
      ap (sum_by f) (flat_map-append (λ (ns : List Name). ns) (a ++ b) c ∙ ap (λ w. w ++ flat_map (λ ns. ns) c) (flat_map-append (λ (ns : List Name). ns) a b))
      ∙ three (flat_map (λ ns. ns) a) (flat_map (λ ns. ns) b) (flat_map (λ ns. ns) c)

  pub merged_weight : (p l r : Heap) → weight (merged p l r) ≡ weight p + weight l + weight r
  merged_weight p l r =
      let a = weight_parts (merged p l r) in
      let b = weight_parts p in
      let c = weight_parts l in
      let d = weight_parts r in
      let e = three_lists l.chunks r.chunks p.chunks in
      let g = three l.large r.large p.large in
      omega arith

  -- what a test keeps has at most the same weight
  kept_by : (x : Name) (xs : List Name) (test : Name → Bool) → sum_by f (filter test xs) ≤ sum_by f xs → (b : Bool) → sum_by f (cond b (x ∷ filter test xs) (filter test xs)) ≤ f x + sum_by f xs
  kept_by x xs test h true = subst (λ k. k ≤ f x + sum_by f xs) (sym (sum_by-cons f x (filter test xs))) (omega arith)
  kept_by x xs test h false = omega arith

  pub kept_weight : (test : Name → Bool) (xs : List Name) → sum_by f (filter test xs) ≤ sum_by f xs
  kept_weight test [] = omega arith
  kept_weight test (x ∷ xs) = subst (λ k. sum_by f (filter test (x ∷ xs)) ≤ k) (sym (sum_by-cons f x xs)) (kept_by x xs test (kept_weight test xs) (test x))

  insert_by : (n m : Name) (ms : List Name) → sum_by f (insert_name n ms) ≡ f n + sum_by f ms → (b : Bool) → sum_by f (cond b (n ∷ m ∷ ms) (m ∷ insert_name n ms)) ≡ f n + (f m + sum_by f ms)
  insert_by n m ms h true = sum_by-cons f n (m ∷ ms) ∙ ap (λ k. f n + k) (sum_by-cons f m ms)
  insert_by n m ms h false = sum_by-cons f m (insert_name n ms) ∙ omega arith

  insert_weight : (n : Name) (ms : List Name) → sum_by f (insert_name n ms) ≡ f n + sum_by f ms
  insert_weight n [] = omega arith
  insert_weight n (m ∷ ms) = insert_by n m ms (insert_weight n ms) (name_le n m) ∙ ap (λ k. f n + k) (sym (sum_by-cons f m ms))

  pub birth_weight : (ns : List Name) → sum_by f (by_birth ns) ≡ sum_by f ns
  birth_weight [] = refl
  birth_weight (n ∷ ns) = insert_weight n (by_birth ns) ∙ (ap (λ k. f n + k) (birth_weight ns) ∙ sym (sum_by-cons f n ns))

  pub survivors_weight : (h : Heap) → sum_by f (small_survivors h) ≤ small_weight h.chunks
  survivors_weight h =
      let a = birth_weight (filter (holds_name h.survivors) (small_in h)) in
      let b = kept_weight (holds_name h.survivors) (small_in h) in
      omega arith

  pub collected_weight : (m : MachineState) (h : Heap) → weight (collected m h) ≤ weight h
  collected_weight m h =
      let a = weight_parts (collected m h) in
      let b = weight_parts h in
      let c = ap (sum_by f) (laid_flat m (small_survivors h)) in
      let d = survivors_weight h in
      let e = kept_weight (holds_name h.survivors) h.large in
      omega arith

  nonempty_weight : (lists : List (List Name)) → small_weight (without_empty lists) ≡ small_weight lists
  nonempty_weight [] = refl
  nonempty_weight ([] ∷ lists) = nonempty_weight lists
  nonempty_weight ((n ∷ ns) ∷ lists) =
      let a = sum_by-append f (n ∷ ns) (flat_map (λ ns. ns) (without_empty lists)) in
      let b = sum_by-append f (n ∷ ns) (flat_map (λ ns. ns) lists) in
      let c = nonempty_weight lists in
      omega arith

  snapshot_weight : (h : Heap) (lists : List (List Name)) → small_weight (map (in_snapshot h) lists) ≤ small_weight lists
  snapshot_weight h [] = omega arith
  snapshot_weight h (ns ∷ lists) =
      let a = sum_by-append f (in_snapshot h ns) (flat_map (λ ns. ns) (map (in_snapshot h) lists)) in
      let b = sum_by-append f ns (flat_map (λ ns. ns) lists) in
      let c = kept_weight (holds_name h.snapshot) ns in
      let d = snapshot_weight h lists in
      omega arith

  pub swept_weight : (h : Heap) → weight (swept_heap h) ≤ weight h
  swept_weight h =
      let a = weight_parts (swept_heap h) in
      let b = weight_parts h in
      let c = nonempty_weight (map (in_snapshot h) h.chunks) in
      let d = snapshot_weight h h.chunks in
      let e = kept_weight (holds_name h.snapshot) h.large in
      omega arith

  pub chunk_weight : (h : Heap) (room : ℕ) → weight (record h { chunks = h.chunks ++ [] ∷ []; room = room }) ≡ weight h
  chunk_weight h room =
      let a = weight_parts (record h { chunks = h.chunks ++ [] ∷ []; room = room }) in
      let b = weight_parts h in
      let c = ap (sum_by f) (flat_map-append (λ (ns : List Name). ns) h.chunks ([] ∷ []) ∙ append-nil (flat_map (λ ns. ns) h.chunks)) in
      omega arith

-- ALL HEAPS

module _ (g : Heap → ℕ) where
  abbrev pub total : List Heap → ℕ
  total heaps = sum_by g heaps

  pub total_set : (heaps : List Heap) (t : ℕ) (h h' : Heap) → slice_get heaps t ≡ Some h → total (slice_set heaps t h') + g h ≡ total heaps + g h'
  total_set [] t h h' e = absurd cc
  total_set (k ∷ heaps) zero h h' e =
      let same : k ≡ h = some_same k h e in
      let q = ap g same in
      let a = sum_by-cons g k heaps in
      let b : total (slice_set (k ∷ heaps) zero h') ≡ g h' + total heaps = sum_by-cons g h' heaps in
      omega arith
    where
      some_same : (a b : Heap) → Some a ≡ Some b → a ≡ b
      some_same a b q = ap (λ (o : Option Heap). elim o as (λ x. Heap) [ None ↦ a | Some z ↦ z ]) q
  total_set (k ∷ heaps) (suc t) h h' e =
      let more = total_set heaps t h h' e in
      let a = sum_by-cons g k heaps in
      let b : total (slice_set (k ∷ heaps) (suc t) h') ≡ g k + total (slice_set heaps t h') = sum_by-cons g k (slice_set heaps t h') in
      omega arith

  -- a function of heaps whose sum no fork or join changes
  pub record Additive : Type 0 where
    pub let_go : (h : Heap) → g (let_go h) ≡ g h
    pub fresh : g fresh ≡ 0
    pub forked : (ns : List Name) (h : Heap) → g (forked_heap ns h) ≡ g h
    pub merged : (p l r : Heap) → g (merged p l r) + g (emptied l) + g (emptied r) ≡ g p + g l + g r

  module _ (A : Additive) where
    forks_total : (t : ℕ) (heaps heaps' : List Heap) → Forks t heaps heaps' → total heaps' ≡ total heaps
    forks_total t heaps heaps' f =
        let at : slice_get (heaps ++ fresh ∷ fresh ∷ []) t ≡ Some f.heap = got_front heaps (fresh ∷ fresh ∷ []) t (got_within heaps t f.heap f.at) ∙ f.at in
        let a = total_set (heaps ++ fresh ∷ fresh ∷ []) t f.heap (forked_heap f.names f.heap) at in
        let b = sum_by-append g heaps (fresh ∷ fresh ∷ []) in
        let c = A.forked f.names f.heap in
        let d = A.fresh in
        let e = ap total f.is in
        omega arith

    joins_total : (tasks : List Task) (heaps heaps' : List Heap) → Joins tasks heaps heaps' → total heaps' ≡ total heaps
    joins_total tasks heaps heaps' j =
        let h1 : List Heap = slice_set heaps j.parent (merged j.own j.left j.right) in
        let h2 : List Heap = slice_set h1 j.child (emptied j.left) in
        let l1 : slice_get h1 j.child ≡ Some j.left = got_other heaps j.parent j.child (merged j.own j.left j.right) (λ e. let q : j.parent < j.child = j.under in omega arith) ∙ j.at_left in
        let r1 : slice_get h2 (j.child + 1) ≡ Some j.right =
        got_other h1 j.child (j.child + 1) (emptied j.left) (λ e. omega arith) ∙ (got_other heaps j.parent (j.child + 1) (merged j.own j.left j.right) (λ e. let q : j.parent < j.child = j.under in omega arith) ∙ j.at_right) in
        let a = total_set heaps j.parent j.own (merged j.own j.left j.right) j.at_parent in
        let b = total_set h1 j.child j.left (emptied j.left) l1 in
        let c = total_set h2 (j.child + 1) j.right (emptied j.right) r1 in
        let d = A.merged j.own j.left j.right in
        let e = ap total j.is in
        omega arith

    pub moves_total : (t : ℕ) (tasks : List Task) (heaps heaps' : List Heap) → Moves t tasks heaps heaps' → total heaps' ≡ total heaps
    moves_total t tasks heaps heaps' (inl e) = ap total e
    moves_total t tasks heaps heaps' (inr (inl m)) = let a = total_set heaps t m.heap (let_go m.heap) m.at in let b = A.let_go m.heap in let e = ap total m.is in omega arith
    moves_total t tasks heaps heaps' (inr (inr (inl f))) = forks_total t heaps heaps' f
    moves_total t tasks heaps heaps' (inr (inr (inr j))) = joins_total tasks heaps heaps' j

pub weight_additive : (f : Name → ℕ) → Additive (weight f)
weight_additive f = record {
  let_go = λ h. refl;
  fresh = refl;
  forked = λ ns h. refl;
  merged = λ p l r. (let a = merged_weight f p l r in omega arith);
}
