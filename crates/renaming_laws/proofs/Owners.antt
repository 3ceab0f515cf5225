-- Owners, and precedence of strands, under a renaming.
use Rattle.renaming_laws.proofs.Common.{◌≡◌, ℕ, zero, suc, ◌<◌, ◌≤◌, Bool, true, false, cond, Option, Some, None, slice_get, ◌⊎◌, inl, inr, refl, ap, sym, subst, ◌∙◌, arith, option_map, cases_Bool, In, same_truth, Strand, Edge, TaskStatus, Running, Waiting, Ended, Joined, Task, MachineState, Precedes, precedes, is_joined, is_over, joined, owner_by, owner_of, parent_of, parents, through, IsForkJoinState, owner_here, IsRenaming, strand_to, edge_to, status_to, task_to, AreRenamed}
use Rattle.renaming_laws.proofs.Carried.{walk_to}

pub over_to : (f : ℕ → ℕ) (s : TaskStatus) → is_over (status_to f s) ≡ is_over s
over_to f Running = refl
over_to f Waiting = refl
over_to f (Ended k r) = refl
over_to f Joined = refl

pub parent_to : (f : ℕ → ℕ) (o : Option Task) → parent_of (option_map (task_to f) o) ≡ option_map f (parent_of o)
parent_to f None = refl
parent_to f (Some x) = refl

joined_to : (f : ℕ → ℕ) (o : Option Task) → is_joined (option_map (task_to f) o) ≡ is_joined o
joined_to f None = refl
joined_to f (Some x) = over_to f x.status

-- what happens before a strand still does
pub walks : (f : ℕ → ℕ) (a b : MachineState) → AreRenamed f a b → (u v : Strand) → Precedes a.edges u v → Precedes b.edges (strand_to f u) (strand_to f v)
walks f a b A u v w = walk_to f a.edges b.edges (λ e. (A.edges e).1) w.0 u v w.1

module _ (n : ℕ) (f g : ℕ → ℕ) (R : IsRenaming n f g) (m m' : MachineState) (K : IsForkJoinState m) (K' : IsForkJoinState m') (A : AreRenamed f m m') where
  abbrev par : ℕ → Option ℕ
  par = parents m.tasks

  abbrev par' : ℕ → Option ℕ
  par' = parents m'.tasks

  abbrev jd : ℕ → Bool
  jd = joined m.tasks

  abbrev jd' : ℕ → Bool
  jd' = joined m'.tasks

  par_at : (a : ℕ) → par' (f a) ≡ option_map f (par a)
  par_at a = ap parent_of (A.tasks a) ∙ parent_to f (slice_get m.tasks a)

  jd_at : (a : ℕ) → jd' (f a) ≡ jd a
  jd_at a = ap is_joined (A.tasks a) ∙ joined_to f (slice_get m.tasks a)

  live : (k k' a : ℕ) → jd a ≡ false → owner_by par' jd' k' (f a) ≡ f (owner_by par jd k a)
  live k k' a e = owner_here par' jd' k' (f a) (jd_at a ∙ e) ∙ ap f (sym (owner_here par jd k a e))

  -- a task that has joined, and its parent
  abbrev Under : ℕ → Type 0
  Under a = (q : ℕ) × (jd a ≡ true) × (par a ≡ Some q) × (q < a) × (par' (f a) ≡ Some (f q)) × (f q < f a)

  stands : (a : ℕ) → (jd a ≡ false) ⊎ Under a
  stands a = elim (cases_Bool (jd a)) [
    | inr e ↦ inl e
    | inl e ↦
        let r = K.tree.rooted a e in
        let e' : par' (f a) ≡ Some (f r.0) = par_at a ∙ ap (option_map f) r.1 in
        inr (r.0, e, r.1, K.tree.low a r.0 r.1, e', K'.tree.low (f a) (f r.0) e')
  ]

  climb : (k k' a : ℕ) (u : Under a) → owner_by par' jd' k' (f u.0) ≡ f (owner_by par jd k u.0) → owner_by par' jd' (suc k') (f a) ≡ f (owner_by par jd (suc k) a)
  climb k k' a u rest =
      let up' : owner_by par' jd' (suc k') (f a) ≡ owner_by par' jd' k' (f u.0) =
      ap (λ b. cond b (through (par' (f a)) (f a) (owner_by par' jd' k')) (f a)) (jd_at a ∙ u.1) ∙ ap (λ o. through o (f a) (owner_by par' jd' k')) u.4 in
      let up : owner_by par jd (suc k) a ≡ owner_by par jd k u.0 = ap (λ b. cond b (through (par a) a (owner_by par jd k)) a) u.1 ∙ ap (λ o. through o a (owner_by par jd k)) u.2 in
      up' ∙ (rest ∙ ap f (sym up))

  owner_by_to : (k k' a : ℕ) → a ≤ k → f a ≤ k' → owner_by par' jd' k' (f a) ≡ f (owner_by par jd k a)
  owner_by_to zero k' a le le' = elim (stands a) [ inl e ↦ live zero k' a e | inr u ↦ let lt : u.0 < a = u.3 in absurd (omega arith) ]
  owner_by_to (suc k) zero a le le' = elim (stands a) [ inl e ↦ live (suc k) zero a e | inr u ↦ let lt : f u.0 < f a = u.5 in absurd (omega arith) ]
  owner_by_to (suc k) (suc k') a le le' = elim (stands a) [
    | inl e ↦ live (suc k) (suc k') a e
    | inr u ↦
        let lt : u.0 < a = u.3 in
        let lt' : f u.0 < f a = u.5 in
        climb k k' a u (owner_by_to k k' u.0 (omega arith) (omega arith))
  ]

  pub owner_to : (a : ℕ) → owner_of m'.tasks (f a) ≡ f (owner_of m.tasks a)
  owner_to a = owner_by_to a (f a) a (omega arith) (omega arith)

  -- STRANDS

  edge_here : (e : Edge) → In m'.edges e → In m.edges (edge_to g e)
  edge_here e i =
      let same : edge_to f (edge_to g e) ≡ e = λ j. record { source = record { task = R.forth e.source.task j; joins = e.source.joins }; target = record { task = R.forth e.target.task j; joins = e.target.joins } } in
      (A.edges (edge_to g e)).0 (subst (In m'.edges) (sym same) i)

  precedes_here : (u v : Strand) → Precedes m'.edges (strand_to f u) (strand_to f v) → Precedes m.edges u v
  precedes_here u v w =
      let back : (s : Strand) → strand_to g (strand_to f s) ≡ s = λ s j. record { task = R.back s.task j; joins = s.joins } in
      subst (λ a. Precedes m.edges a v) (back u) (subst (Precedes m.edges (strand_to g (strand_to f u))) (back v) (walk_to g m'.edges m.edges edge_here w.0 (strand_to f u) (strand_to f v) w.1))

  pub test_to : (u v : Strand) → precedes m'.edges (strand_to f u) (strand_to f v) ≡ precedes m.edges u v
  test_to u v =
      same_truth (precedes m'.edges (strand_to f u) (strand_to f v)) (precedes m.edges u v)
      (λ e. (K.tree.right u v).1 (precedes_here u v ((K'.tree.right (strand_to f u) (strand_to f v)).0 e)))
      (λ e. (K'.tree.right (strand_to f u) (strand_to f v)).1 (walks f m m' A u v ((K.tree.right u v).0 e)))
