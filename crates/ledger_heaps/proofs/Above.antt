-- The ancestors of a task, and what their heaps' objects refer to.
use Rattle.ledger_heaps.proofs.Common.{◌≡◌, ℕ, zero, suc, ◌==◌, Bool, true, false, cond, not, Option, Some, None, List, [], ◌∷◌, slice_get, filter, ◌⊎◌, inl, inr, refl, ap, sym, subst, ◌∙◌, eqb, eqb-true, eq-eqb, flat_map, and_parts, and_from, or_cases, or_right, false≢true, not-true, In, contains_from_in, in_flat, flat_in, in_kept, in_from_kept, got_in, same_truth, Name, MachineState, refs_at, owner_of, is_on_path, parents, path_by, through, path_here, Heap, holds_name, held, is_proper_ancestor, in_from_holds, holds_from_in, in_held, held_keeps, heap_names, accounts, AreOwned, ancestors, ancestors_by, references_from_heaps}

pub one_up : (par : ℕ → Option ℕ) (k at p : ℕ) → par at ≡ Some p → ancestors_by par (suc k) at ≡ p ∷ ancestors_by par k p
one_up par k at p e = ap (λ (o : Option ℕ). through o [] (λ q. q ∷ ancestors_by par k q)) e

-- tests that hold for the same names are equal
pub same_holds : (ns ms : List Name) → ((n : Name) → In ns n → In ms n) → ((n : Name) → In ms n → In ns n) → (n : Name) → holds_name ns n ≡ holds_name ms n
same_holds ns ms f g n =
    same_truth (holds_name ns n) (holds_name ms n) (λ h. holds_from_in ms n (f n (in_from_holds ns n h))) (λ h. holds_from_in ns n (g n (in_from_holds ms n h)))

-- PATHS

module _ (par : ℕ → Option ℕ) (k a : ℕ) (rest : (p : ℕ) → path_by par k a p ≡ true → (a ≡ p) ⊎ In (ancestors_by par k p) a) where
  up_from : (o : Option ℕ) → through o false (path_by par k a) ≡ true → In (through o [] (λ p. p ∷ ancestors_by par k p)) a
  up_from None h = absurd (false≢true h)
  up_from (Some p) h = elim (rest p h) [ inl e ↦ inl (sym e) | inr i ↦ inr i ]

above_from_path : (par : ℕ → Option ℕ) (k a at : ℕ) → path_by par k a at ≡ true → (a ≡ at) ⊎ In (ancestors_by par k at) a
above_from_path par zero a at h = inl (eqb-true a at h)
above_from_path par (suc k) a at h =
    elim (or_cases (eqb a at) (through (par at) false (path_by par k a)) h) [
      | inl e ↦ inl (eqb-true a at e)
      | inr e ↦ inr (up_from par k a (above_from_path par k a) (par at) e)
    ]

module _ (par : ℕ → Option ℕ) (k a : ℕ) (rest : (p : ℕ) → In (ancestors_by par k p) a → path_by par k a p ≡ true) where
  down_from : (o : Option ℕ) → In (through o [] (λ p. p ∷ ancestors_by par k p)) a → through o false (path_by par k a) ≡ true
  down_from None i = absurd i
  down_from (Some p) (inl e) = subst (λ q. path_by par k a q ≡ true) (sym e) (path_here par k a a (eq-eqb a a refl))
  down_from (Some p) (inr i) = rest p i

path_from_above : (par : ℕ → Option ℕ) (k a at : ℕ) → In (ancestors_by par k at) a → path_by par k a at ≡ true
path_from_above par zero a at i = absurd i
path_from_above par (suc k) a at i = or_right (eqb a at) (through (par at) false (path_by par k a)) (down_from par k a (path_from_above par k a) (par at) i)

-- WHAT THE ANCESTORS' HEAPS REFER TO

module _ (m : MachineState) (heaps : List Heap) (t : ℕ) (owned : AreOwned m.tasks heaps) where
  abbrev refs : Name → List Name
  refs n = refs_at m.store n

  abbrev own : Name → ℕ
  own n = owner_of m.tasks n.task

  abbrev test : Name → Bool
  test n = is_proper_ancestor m.tasks (own n) t

  abbrev kept : List Name
  kept = filter test (held (accounts m heaps))

  owner_is : (u : ℕ) (n : Name) → In (heap_names (slice_get heaps u)) n → own n ≡ u
  owner_is u n i = owned u n (contains_from_in (heap_names (slice_get heaps u)) n i)

  tested : (a : ℕ) (n : Name) → own n ≡ a → is_on_path m.tasks a t ≡ true → (a == t) ≡ false → test n ≡ true
  tested a n e h ne = subst (λ b. is_proper_ancestor m.tasks b t ≡ true) (sym e) (and_from (is_on_path m.tasks a t) (not (a == t)) h (ap not ne))

  into_kept : (a : ℕ) (r : Name) → In (ancestors m.tasks t) a → (b : Bool) → (a == t) ≡ b → In (cond b [] (flat_map refs (heap_names (slice_get heaps a)))) r → In (flat_map refs kept) r
  into_kept a r up true e i = absurd i
  into_kept a r up false e i =
      let f = flat_in refs (heap_names (slice_get heaps a)) r i in
      let n = f.1 in
      let i' : In (heap_names (slice_get heaps a)) n = got_in (heap_names (slice_get heaps a)) f.0 n f.2 in
      in_flat refs kept n r
      (in_kept test (held (accounts m heaps)) n (in_held (accounts m heaps) n (a, i')) (tested a n (owner_is a n i') (path_from_above (parents m.tasks) t a t up) e)) f.3

  up_kept : (r : Name) → In (flat_map (references_from_heaps m.store heaps t) (ancestors m.tasks t)) r → In (flat_map refs kept) r
  up_kept r i =
      let f = flat_in (references_from_heaps m.store heaps t) (ancestors m.tasks t) r i in
      into_kept f.1 r (got_in (ancestors m.tasks t) f.0 f.1 f.2) (f.1 == t) refl f.3

  in_refs : (u : ℕ) (r n : Name) → In (heap_names (slice_get heaps u)) n → In (refs n) r → (b : Bool) → b ≡ false → In (cond b [] (flat_map refs (heap_names (slice_get heaps u)))) r
  in_refs u r n i j true e = absurd (false≢true (sym e))
  in_refs u r n i j false e = in_flat refs (heap_names (slice_get heaps u)) n r i j

  in_above : (u : ℕ) → is_on_path m.tasks u t ≡ true → (u == t) ≡ false → In (ancestors m.tasks t) u
  in_above u h ne = elim (above_from_path (parents m.tasks) t u t h) [ inl e ↦ absurd (false≢true (sym ne ∙ eq-eqb u t e)) | inr i ↦ i ]

  from_kept : (r : Name) → In (flat_map refs kept) r → In (flat_map (references_from_heaps m.store heaps t) (ancestors m.tasks t)) r
  from_kept r i =
      let f = flat_in refs kept r i in
      let n = f.1 in
      let k = in_from_kept test (held (accounts m heaps)) n (got_in kept f.0 n f.2) in
      let at = held_keeps (accounts m heaps) n k.0 in
      let u = at.0 in
      let o : own n ≡ u = owner_is u n at.1 in
      let above : is_proper_ancestor m.tasks u t ≡ true = subst (λ b. is_proper_ancestor m.tasks b t ≡ true) o k.1 in
      let both = and_parts (is_on_path m.tasks u t) (not (u == t)) above in
      let ne : (u == t) ≡ false = not-true (u == t) both.1 in
      in_flat (references_from_heaps m.store heaps t) (ancestors m.tasks t) u r (in_above u both.0 ne) (in_refs u r n at.1 f.3 (u == t) ne)

  pub above_same : (r : Name) → holds_name (flat_map (references_from_heaps m.store heaps t) (ancestors m.tasks t)) r ≡ holds_name (flat_map refs kept) r
  above_same = same_holds (flat_map (references_from_heaps m.store heaps t) (ancestors m.tasks t)) (flat_map refs kept) up_kept from_kept
