-- Two forks in either order give the same state except for the numbers of the four children.
use Rattle.schedule_laws.proofs.Common.{◌≡◌, ℕ, zero, suc, ◌+◌, ◌-◌, ◌%◌, ◌<◌, ◌≤◌, Option, Some, None, List, [], ◌∷◌, ◌++◌, length, map, slice_get, slice_set, ◌⊎◌, inl, inr, refl, ap, sym, subst, ◌∙◌, arith, length-append, length-set, option_map, map-append, same_Some, In, got_back, got_cases, got_front, got_past, got_within, in_got, in_map, Edge, Object, Waiting, Task, MachineState, Disentangled, object_at, onward, row_of, names_from, child, edge, parent_of, strand, NamesAreStoredIn, IsForkJoinState, swap, IsRenaming, edge_to, object_to, task_to, KeepsTask, row_fixed, task_fixed, from_map, at_first, at_low, at_second, stands, swapped}
use Rattle.schedule_laws.proofs.Commuting.{in_swap}
use Rattle.schedule_laws.proofs.Lows.{LowIn, object_low}

two_cases : {A : Type 0} (xs : List A) (c d : A) (k : ℕ) (z : A) → slice_get (xs ++ c ∷ d ∷ []) k ≡ Some z → (slice_get xs k ≡ Some z) ⊎ ((z ≡ c) ⊎ (z ≡ d))
two_cases [] c d zero z e = inr (inl (sym (same_Some c z e)))
two_cases [] c d (suc zero) z e = inr (inr (sym (same_Some d z e)))
two_cases [] c d (suc (suc k)) z e = absurd cc
two_cases (x ∷ xs) c d zero z e = inl e
two_cases (x ∷ xs) c d (suc k) z e = two_cases xs c d k z e

module _ {A : Type 0} (n : ℕ) (odd : n % 2 ≡ 1) (xs : List A) (long : length xs ≡ n) where
  at_front : (a b : List A) (k : ℕ) → k < n → slice_get ((xs ++ a) ++ b) k ≡ slice_get xs k
  at_front a b k lt = got_front (xs ++ a) b k (omega (arith, length-append xs a)) ∙ got_front xs a k (omega arith)

  at_middle : (a b : List A) (k : ℕ) → n ≤ k → k < n + length a → slice_get ((xs ++ a) ++ b) k ≡ slice_get a (k - n)
  at_middle a b k ge lt =
      let e : k ≡ length xs + (k - n) = omega arith in
      got_front (xs ++ a) b k (omega (arith, length-append xs a)) ∙ (ap (slice_get (xs ++ a)) e ∙ got_back xs a (k - n))

  at_end : (a b : List A) (k : ℕ) → n + length a ≤ k → slice_get ((xs ++ a) ++ b) k ≡ slice_get b (k - (n + length a))
  at_end a b k ge =
      let e : k ≡ length (xs ++ a) + (k - (n + length a)) = omega (arith, length-append xs a) in
      ap (slice_get ((xs ++ a) ++ b)) e ∙ got_back (xs ++ a) b (k - (n + length a))

  pub swap_get : (a b : List A) → length a ≡ 2 → length b ≡ 2 → (k : ℕ) → slice_get ((xs ++ b) ++ a) (swap n k) ≡ slice_get ((xs ++ a) ++ b) k
  swap_get a b la lb k = elim (stands n odd k) [
    | inl h ↦ ap (slice_get ((xs ++ b) ++ a)) h.1 ∙ (at_front b a k h.0 ∙ sym (at_front a b k h.0))
    | inr more ↦ elim more [
      | inl h ↦
          let ge : n ≤ k = h.0 in
          let lt : k < n + 2 = h.1 in
          let e : k + 2 - (n + length b) ≡ k - n = omega arith in
          ap (slice_get ((xs ++ b) ++ a)) h.2 ∙ (at_end b a (k + 2) (omega arith) ∙ (ap (slice_get a) e ∙ sym (at_middle a b k ge (omega arith))))
      | inr rest ↦ elim rest [
        | inl h ↦
            let ge : n + 2 ≤ k = h.0 in
            let lt : k < n + 4 = h.1 in
            let e : k - 2 - n ≡ k - (n + length a) = omega arith in
            ap (slice_get ((xs ++ b) ++ a)) h.2 ∙ (at_middle b a (k - 2) (omega arith) (omega arith) ∙ (ap (slice_get b) e ∙ sym (at_end a b k (omega arith))))
        | inr h ↦
            let ge : n + 4 ≤ k = h.0 in
            ap (slice_get ((xs ++ b) ++ a)) h.1
            ∙ (at_end b a k (omega arith) ∙ (got_past a (k - (n + length b)) (omega arith) ∙ (sym (got_past b (k - (n + length a)) (omega arith)) ∙ sym (at_end a b k (omega arith)))))
      ]
    ]
  ]

module _ (m : MachineState) (K : IsForkJoinState m) (D : Disentangled m.tasks m.store) (N : NamesAreStoredIn m) (L : LowIn m) (rows : length m.store ≡ length m.tasks) where
  abbrev pub f : ℕ → ℕ
  f = swap (length m.tasks)

  stays : (k : ℕ) → k < length m.tasks → f k ≡ k
  stays k lt = at_low (length m.tasks) K.tree.odd k lt

  old_keeps : (v : ℕ) (x : Task) → slice_get m.tasks v ≡ Some x → KeepsTask f x
  old_keeps v x is = record {
    parent = λ q e. (let a : q < v = K.tree.low v q (ap parent_of is ∙ e) in let b : v < length m.tasks = got_within m.tasks v x is in stays q (omega arith));
    result = λ k r e. stays r.task (D.of_task v x r is (subst (λ s. In (names_from s (x.top ∷ x.below)) r) (sym e) (inl refl))).0;
    top = λ r i. stays r.task (L v x is x.top (inl refl) r i);
    below = λ y i r j. stays r.task (L v x is y (inr i) r j);
  }

  wait_keeps : (v : ℕ) (x : Task) → slice_get m.tasks v ≡ Some x → KeepsTask f (record x { status = Waiting; top = onward x.top })
  wait_keeps v x is = let o = old_keeps v x is in record { parent = o.parent; result = λ k r e. absurd cc; top = o.top; below = o.below }

  child_keeps : (v : ℕ) (x : Task) (d g : ℕ) → slice_get m.tasks v ≡ Some x → KeepsTask f (child v d g x.top)
  child_keeps v x d g is =
      let o = old_keeps v x is in
      record { parent = λ q e. (let h : v ≡ q = same_Some v q e in subst (λ k. f k ≡ k) h (stays v (got_within m.tasks v x is))); result = λ k r e. absurd cc; top = o.top; below = λ y i. absurd i }

  module _ (t u : ℕ) (x y : Task) (is : slice_get m.tasks t ≡ Some x) (iu : slice_get m.tasks u ≡ Some y) (g h k l : ℕ) where
    abbrev yt : Task
    yt = record x { status = Waiting; top = onward x.top }

    abbrev yu : Task
    yu = record y { status = Waiting; top = onward y.top }

    abbrev pub ct : List Task
    ct = child t (x.depth + 1) g x.top ∷ child t (x.depth + 1) h x.top ∷ []

    abbrev pub cu : List Task
    cu = child u (y.depth + 1) k y.top ∷ child u (y.depth + 1) l y.top ∷ []

    abbrev pub all : List Task
    all = slice_set (slice_set m.tasks t yt) u yu

    all_keep : (v : ℕ) (z : Task) → slice_get ((all ++ ct) ++ cu) v ≡ Some z → KeepsTask f z
    all_keep v z e = elim (two_cases (all ++ ct) _ _ v z e) [
      | inr new ↦ elim new [ inl a ↦ subst (KeepsTask f) (sym a) (child_keeps u y (y.depth + 1) k iu) | inr a ↦ subst (KeepsTask f) (sym a) (child_keeps u y (y.depth + 1) l iu) ]
      | inl front ↦ elim (two_cases all _ _ v z front) [
        | inr new ↦ elim new [ inl a ↦ subst (KeepsTask f) (sym a) (child_keeps t x (x.depth + 1) g is) | inr a ↦ subst (KeepsTask f) (sym a) (child_keeps t x (x.depth + 1) h is) ]
        | inl old ↦ elim (got_cases (slice_set m.tasks t yt) u v yu z old) [
          | inl here ↦ subst (KeepsTask f) (sym here.1) (wait_keeps u y iu)
          | inr other ↦ elim (got_cases m.tasks t v yt z other) [
            | inl here ↦ subst (KeepsTask f) (sym here.1) (wait_keeps t x is)
            | inr rest ↦ old_keeps v z rest
          ]
        ]
      ]
    ]

    abbrev pub two_rows : List (List Object)
    two_rows = [] ∷ [] ∷ []

    row_keeps : (v : ℕ) (row : List Object) → slice_get ((m.store ++ two_rows) ++ two_rows) v ≡ Some row → map (object_to f) row ≡ row
    row_keeps v row e = elim (two_cases (m.store ++ two_rows) _ _ v row e) [
      | inr new ↦ elim new [ inl a ↦ empty row a | inr a ↦ empty row a ]
      | inl front ↦ elim (two_cases m.store _ _ v row front) [
        | inr new ↦ elim new [ inl a ↦ empty row a | inr a ↦ empty row a ]
        | inl old ↦ row_fixed f row (λ o i.
            let c = in_got row o i in
            let low = object_low m K N (record { task = v; count = c.0 }) o (row_keeps_at old c.0 c.1) in
            (stays o.strand.task low.0, (λ r j. stays r.task (low.1 r j))))
      ]
    ]
      where
        empty : (row : List Object) → row ≡ [] → map (object_to f) row ≡ row
        empty row e = subst (λ w. map (object_to f) w ≡ w) (sym e) refl

        row_keeps_at : slice_get m.store v ≡ Some row → {o : Object} (c : ℕ) → slice_get row c ≡ Some o → object_at m.store (record { task = v; count = c }) ≡ Some o
        row_keeps_at old c e = ap (λ w. slice_get (row_of w) c) old ∙ e

    pub tasks_swap : (v : ℕ) → slice_get ((all ++ cu) ++ ct) (f v) ≡ option_map (task_to f) (slice_get ((all ++ ct) ++ cu) v)
    tasks_swap v =
        swap_get (length m.tasks) K.tree.odd all (length-set (slice_set m.tasks t yt) u yu ∙ length-set m.tasks t yt) ct cu refl refl v
        ∙ tasks_swap_by_cases (slice_get ((all ++ ct) ++ cu) v) (λ z e. all_keep v z e)
      where
        tasks_swap_by_cases : (o : Option Task) → ((z : Task) → o ≡ Some z → KeepsTask f z) → o ≡ option_map (task_to f) o
        tasks_swap_by_cases None each = refl
        tasks_swap_by_cases (Some z) each = ap Some (sym (task_fixed f z (each z refl)))

    pub rows_swap : (v : ℕ) → slice_get ((m.store ++ two_rows) ++ two_rows) (f v) ≡ option_map (map (object_to f)) (slice_get ((m.store ++ two_rows) ++ two_rows) v)
    rows_swap v = swap_get (length m.tasks) K.tree.odd m.store rows two_rows two_rows refl refl v ∙ rows_swap_by_cases (slice_get ((m.store ++ two_rows) ++ two_rows) v) (λ row e. row_keeps v row e)
      where
        rows_swap_by_cases : (o : Option (List Object)) → ((row : List Object) → o ≡ Some row → map (object_to f) row ≡ row) → o ≡ option_map (map (object_to f)) o
        rows_swap_by_cases None each = refl
        rows_swap_by_cases (Some row) each = ap Some (sym (each row refl))

    -- EDGES

    abbrev pub fork_edges : ℕ → ℕ → ℕ → List Edge
    fork_edges v j n = edge (strand v j) (strand n 0) ∷ edge (strand v j) (strand (n + 1) 0) ∷ []

    edges_keep : (es : List Edge) → ((e : Edge) → In es e → In m.edges e) → map (edge_to f) es ≡ es
    edges_keep [] sub = refl
    edges_keep (e ∷ es) sub =
        let ends = K.tree.known e (sub e (inl refl)) in
        let a : f e.source.task ≡ e.source.task = stays e.source.task ends.0.0 in
        let b : f e.target.task ≡ e.target.task = stays e.target.task ends.1.0 in
        let rest : map (edge_to f) es ≡ es = edges_keep es (λ d i. sub d (inr i)) in
        λ i. record { source = record e.source { task = a i }; target = record e.target { task = b i } } ∷ rest i

    first_edges : (v j : ℕ) → v < length m.tasks → map (edge_to f) (fork_edges v j (length m.tasks)) ≡ fork_edges v j (length m.tasks + 2)
    first_edges v j lt =
        let a : f v ≡ v = stays v lt in
        let b : f (length m.tasks) ≡ length m.tasks + 2 = at_first (length m.tasks) K.tree.odd (length m.tasks) (omega arith) (omega arith) in
        let c : f (length m.tasks + 1) ≡ length m.tasks + 2 + 1 = at_first (length m.tasks) K.tree.odd (length m.tasks + 1) (omega arith) (omega arith) ∙ (let e : length m.tasks + 1 + 2 ≡ length m.tasks + 2 + 1 = omega arith in e) in
        λ i. edge (strand (a i) j) (strand (b i) 0) ∷ edge (strand (a i) j) (strand (c i) 0) ∷ []

    second_edges : (v j : ℕ) → v < length m.tasks → map (edge_to f) (fork_edges v j (length m.tasks + 2)) ≡ fork_edges v j (length m.tasks)
    second_edges v j lt =
        let a : f v ≡ v = stays v lt in
        let b : f (length m.tasks + 2) ≡ length m.tasks = at_second (length m.tasks) K.tree.odd (length m.tasks + 2) (omega arith) (omega arith) ∙ (let e : length m.tasks + 2 - 2 ≡ length m.tasks = omega arith in e) in
        let c : f (length m.tasks + 2 + 1) ≡ length m.tasks + 1 = at_second (length m.tasks) K.tree.odd (length m.tasks + 2 + 1) (omega arith) (omega arith) ∙ (let e : length m.tasks + 2 + 1 - 2 ≡ length m.tasks + 1 = omega arith in e) in
        λ i. edge (strand (a i) j) (strand (b i) 0) ∷ edge (strand (a i) j) (strand (c i) 0) ∷ []

    pub edges_swap : (i j : ℕ) (e : Edge)
        → (In ((m.edges ++ fork_edges u j (length m.tasks)) ++ fork_edges t i (length m.tasks + 2)) (edge_to f e) → In ((m.edges ++ fork_edges t i (length m.tasks)) ++ fork_edges u j (length m.tasks + 2)) e)
        × (In ((m.edges ++ fork_edges t i (length m.tasks)) ++ fork_edges u j (length m.tasks + 2)) e → In ((m.edges ++ fork_edges u j (length m.tasks)) ++ fork_edges t i (length m.tasks + 2)) (edge_to f e))
    edges_swap i j e =
        let here : List Edge = (m.edges ++ fork_edges u j (length m.tasks + 2)) ++ fork_edges t i (length m.tasks) in
        let same : map (edge_to f) here ≡ (m.edges ++ fork_edges u j (length m.tasks)) ++ fork_edges t i (length m.tasks + 2) =
        map-append (edge_to f) (m.edges ++ fork_edges u j (length m.tasks + 2)) (fork_edges t i (length m.tasks))
        ∙ (ap (λ es. es ++ map (edge_to f) (fork_edges t i (length m.tasks))) (map-append (edge_to f) m.edges (fork_edges u j (length m.tasks + 2)))
        ∙ (λ z. (edges_keep m.edges (λ d k. k) z ++ second_edges u j (got_within m.tasks u y iu) z) ++ first_edges t i (got_within m.tasks t x is) z)) in
        let back : (d : Edge) → edge_to f (edge_to f d) ≡ d = λ d z. record { source = record d.source { task = R.back d.source.task z }; target = record d.target { task = R.back d.target.task z } } in (
          (λ k. in_swap m.edges (fork_edges u j (length m.tasks + 2)) (fork_edges t i (length m.tasks)) e (from_map (edge_to f) (edge_to f) back here e (subst (λ es. In es (edge_to f e)) (sym same) k))),
          (λ k. subst (λ es. In es (edge_to f e)) same (in_map (edge_to f) here e (in_swap m.edges (fork_edges t i (length m.tasks)) (fork_edges u j (length m.tasks + 2)) e k))),
        )
      where
        R : IsRenaming (length m.tasks + 4) f f
        R = swapped (length m.tasks) K.tree.odd
