-- Forks and joins keep placement.
use Rattle.fork_join.proofs.Common.{◌≡◌, ℕ, true, false, List, Contains, ◌⊎◌, inl, inr, refl, sym, ap, ◌∙◌, subst, Option, Some, cases_Bool, cases_eq, ChunkValue, has_chunk, IsUpFrom, TaskNode, parent_of, PoolValue, RefField, lifted, lifted_are_there, joined_nodes, FilledField, OwnersSatisfy, Owns, Merges}
use Rattle.fork_join.proofs.Owners.{some_same, Moved, moved}
use Rattle.fork_join.proofs.Walks.{joined_parent, up_kept, up_more, up_over}

module _ (nodes : List TaskNode) (old new : PoolValue) (sources after : ℕ → List RefField) (p c d : ℕ) (ks ls rs : List ChunkValue) (op : Owns old p ks) (oc : Owns old c ls) (od : Owns old d rs)
    (pc : parent_of nodes c ≡ Some p) (pd : parent_of nodes d ≡ Some p) (J : Merges old new sources after p c d ks ls rs) where
  abbrev par : ℕ → Option ℕ
  par = parent_of nodes

  abbrev WasMoved : ℕ → ℕ → ℕ → Type 0
  WasMoved n x o = Moved old new sources after p c d ks ls rs op oc od J n x o

  child_parent : (u : ℕ) → (u ≡ c) ⊎ (u ≡ d) → par u ≡ Some p
  child_parent u (inl e) = ap par e ∙ pc
  child_parent u (inr e) = ap par e ∙ pd

  -- the heaps from which and into which a reference leads, after the join
  up_after : (a r from into u z : ℕ) → WasMoved a from u → WasMoved r into z → IsUpFrom par u z → IsUpFrom par from into
  up_after a r from into u z (eu, inl mu) (ez, inl mz) up = subst (λ (n : ℕ). IsUpFrom par n into) (sym mu.1) (subst (λ (n : ℕ). IsUpFrom par p n) (sym mz.1) (0, refl))
  up_after a r from into u z (eu, inr mu) (ez, inl mz) up =
      subst (λ (n : ℕ). IsUpFrom par n into) (sym mu.1) (subst (λ (n : ℕ). IsUpFrom par u n) (sym mz.1) (up_more par u z p (child_parent z mz.0) up))
  up_after a r from into u z (eu, inl mu) (ez, inr mz) up =
      subst (λ (n : ℕ). IsUpFrom par n into) (sym mu.1)
      (subst (λ (n : ℕ). IsUpFrom par p n) (sym mz.1) (up_over par u p z (child_parent u mu.0) (λ e. mz.0 (subst (λ (n : ℕ). (n ≡ c) ⊎ (n ≡ d)) (sym e) mu.0)) up))
  up_after a r from into u z (eu, inr mu) (ez, inr mz) up = subst (λ (n : ℕ). IsUpFrom par n into) (sym mu.1) (subst (λ (n : ℕ). IsUpFrom par u n) (sym mz.1) up)

  abbrev Now : RefField → ℕ → ℕ → Type 0
  Now s from into = IsUpFrom par from into ⊎ Contains (after into) s

  -- what the parent's set has
  abbrev one : List RefField
  one = lifted (sources p) (sources c) ks

  from_parent : (s : RefField) → Contains (sources p) s → Contains (after p) s
  from_parent s h = subst (λ (xs : List RefField). Contains xs s) (sym J.lifts) ((lifted_are_there one (sources d) ks s).1 (inl ((lifted_are_there (sources p) (sources c) ks s).1 (inl h))))

  from_left : (s : RefField) → Contains (sources c) s → has_chunk ks s.object.chunk ≡ false → Contains (after p) s
  from_left s h out = subst (λ (xs : List RefField). Contains xs s) (sym J.lifts) ((lifted_are_there one (sources d) ks s).1 (inl ((lifted_are_there (sources p) (sources c) ks s).1 (inr (h, out)))))

  from_right : (s : RefField) → Contains (sources d) s → has_chunk ks s.object.chunk ≡ false → Contains (after p) s
  from_right s h out = subst (λ (xs : List RefField). Contains xs s) (sym J.lifts) ((lifted_are_there one (sources d) ks s).1 (inr (h, out)))

  -- an object in the parent's own chunk is the parent's
  own_from : (n from u : ℕ) → has_chunk ks n ≡ true → WasMoved n from u → from ≡ p
  own_from n from u h (eu, inl mu) = mu.1
  own_from n from u h (eu, inr mu) = mu.1 ∙ some_same u p (sym eu ∙ (op n).1 h)

  lifted_after : (s : RefField) (from into u z : ℕ) → WasMoved s.object.chunk from u → (z ≡ c) ⊎ (z ≡ d) → into ≡ p → Contains (sources z) s → Now s from into
  lifted_after s from into u z mu child is noted = elim (cases_Bool (has_chunk ks s.object.chunk)) [
    | inl own ↦ inl (subst (λ (n : ℕ). IsUpFrom par n into) (sym (own_from s.object.chunk from u own mu)) (subst (λ (n : ℕ). IsUpFrom par p n) (sym is) (0, refl)))
    | inr out ↦ inr (subst (λ (n : ℕ). Contains (after n) s) (sym is) (elim child [
      | inl e ↦ from_left s (subst (λ (n : ℕ). Contains (sources n) s) e noted) out
      | inr e ↦ from_right s (subst (λ (n : ℕ). Contains (sources n) s) e noted) out
    ]))
  ]

  kept_after : (s : RefField) (from into z : ℕ) → (((z ≡ c) ⊎ (z ≡ d)) → ⊥) → into ≡ z → (z ≡ p) ⊎ (z ≡ p → ⊥) → Contains (sources z) s → Now s from into
  kept_after s from into z none is (inl e) noted =
      inr (subst (λ (n : ℕ). Contains (after n) s) (sym (is ∙ e)) (from_parent s (subst (λ (n : ℕ). Contains (sources n) s) e noted)))
  kept_after s from into z none is (inr ne) noted =
      inr (subst (λ (n : ℕ). Contains (after n) s) (sym is) (subst (λ (xs : List RefField). Contains xs s) (sym (J.others z ne (λ e. none (inl e)) (λ e. none (inr e)))) noted))

  noted_after : (s : RefField) (r from into u z : ℕ) → WasMoved s.object.chunk from u → WasMoved r into z → Contains (sources z) s → Now s from into
  noted_after s r from into u z mu (ez, inl mz) noted = lifted_after s from into u z mu mz.0 mz.1 noted
  noted_after s r from into u z mu (ez, inr mz) noted = kept_after s from into z mz.0 mz.1 (cases_eq z p) noted

  to_new : (s : RefField) (from into : ℕ) → Now s from into → IsUpFrom (parent_of (joined_nodes nodes p c d)) from into ⊎ Contains (after into) s
  to_new s from into (inl up) = inl (up_kept par (parent_of (joined_nodes nodes p c d)) (joined_parent nodes p c d) from into up)
  to_new s from into (inr noted) = inr noted

  pub placed_after : (f : FilledField) → OwnersSatisfy nodes old sources f → OwnersSatisfy (joined_nodes nodes p c d) new after f
  placed_after f placed = λ from into ea er.
      let s : RefField = record { object = f.object; field = f.number } in
      let u = moved old new sources after p c d ks ls rs op oc od J f.object.chunk from ea in
      let z = moved old new sources after p c d ks ls rs op oc od J f.target.chunk into er in
      to_new s from into (elim (placed u.0 z.0 u.1.0 z.1.0) [
        | inl up ↦ inl (up_after f.object.chunk f.target.chunk from into u.0 z.0 u.1 z.1 up)
        | inr noted ↦ noted_after s f.target.chunk from into u.0 z.0 u.1 z.1 noted
      ])
