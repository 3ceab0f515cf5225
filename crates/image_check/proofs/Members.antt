-- What the whole text has comes from its lines.
use Rattle.image_check.proofs.Common.{◌≡◌, ◌++◌, ℕ, suc, Bool, true, false, List, [], ◌∷◌, cond, length, refl, ap, sym, ◌∙◌, inl, inr, ◌⊎◌, ◌==◌, ◌&&◌, ◌||◌, nat_eq, is_some, list_any, eqb-true, or_cases, or_left, or_right, and_parts, ImageObject, ImageRemembered, ImageLine, Nothing, Wrong, Title, OfTask, OfChunk, OfObject, OfRemembered, OfEnd, Whole, line_meaning, is_among, with_item, same_field, found, has, most, with_line, with_lines, IsImageObjectAt, IsRemembered}
use Rattle.image_check.proofs.Entries.{found_beside}

-- ITEMS

or_more : (a b c : Bool) → ((b ≡ true) ⊎ (c ≡ true)) → ((a || b) ≡ true) ⊎ (c ≡ true)
or_more a b c (inl e) = inl (or_right a b e)
or_more a b c (inr e) = inr e

module _ {K : Type 0} where
  any_last : (p : K → Bool) (ks : List K) (k : K) → list_any p (ks ++ k ∷ []) ≡ true → (list_any p ks ≡ true) ⊎ (p k ≡ true)
  any_last p [] k e = last_of (p k) e
    where
      last_of : (b : Bool) → (b || false) ≡ true → (false ≡ true) ⊎ (b ≡ true)
      last_of true e = inr refl
      last_of false e = inl e
  any_last p (x ∷ xs) k e = any_last_by_cases (or_cases (p x) (list_any p (xs ++ k ∷ [])) e) (λ h. any_last p xs k h)
    where
      any_last_by_cases : ((p x ≡ true) ⊎ (list_any p (xs ++ k ∷ []) ≡ true)) → (list_any p (xs ++ k ∷ []) ≡ true → (list_any p xs ≡ true) ⊎ (p k ≡ true)) → ((p x || list_any p xs) ≡ true) ⊎ (p k ≡ true)
      any_last_by_cases (inl h) again = inl (or_left (p x) (list_any p xs) h)
      any_last_by_cases (inr h) again = or_more (p x) (list_any p xs) (p k) (again h)

  any_kept : (p : K → Bool) (ks : List K) (k : K) → list_any p ks ≡ true → list_any p (ks ++ k ∷ []) ≡ true
  any_kept p [] k e = absurd (cc)
  any_kept p (x ∷ xs) k e = any_kept_by_cases (or_cases (p x) (list_any p xs) e) (λ h. any_kept p xs k h)
    where
      any_kept_by_cases : ((p x ≡ true) ⊎ (list_any p xs ≡ true)) → (list_any p xs ≡ true → list_any p (xs ++ k ∷ []) ≡ true) → (p x || list_any p (xs ++ k ∷ [])) ≡ true
      any_kept_by_cases (inl h) again = or_left (p x) (list_any p (xs ++ k ∷ [])) h
      any_kept_by_cases (inr h) again = or_right (p x) (list_any p (xs ++ k ∷ [])) (again h)

  any_added : (p : K → Bool) (ks : List K) (k : K) → p k ≡ true → list_any p (ks ++ k ∷ []) ≡ true
  any_added p [] k e = or_left (p k) false e
  any_added p (x ∷ xs) k e = or_right (p x) (list_any p (xs ++ k ∷ [])) (any_added p xs k e)

  module _ (same : K → K → Bool) (ks : List K) (k x : K) where
    from_by : (b : Bool) → is_among same (cond b ks (ks ++ k ∷ [])) x ≡ true → (is_among same ks x ≡ true) ⊎ (same x k ≡ true)
    from_by true e = inl e
    from_by false e = any_last (same x) ks k e

    pub item_from : is_among same (with_item same ks k) x ≡ true → (is_among same ks x ≡ true) ⊎ (same x k ≡ true)
    item_from e = from_by (is_among same ks k) e

    kept_by : (b : Bool) → is_among same ks x ≡ true → is_among same (cond b ks (ks ++ k ∷ [])) x ≡ true
    kept_by true e = e
    kept_by false e = any_kept (same x) ks k e

    pub item_kept : is_among same ks x ≡ true → is_among same (with_item same ks k) x ≡ true
    item_kept e = kept_by (is_among same ks k) e

  added_by : (same : K → K → Bool) (ks : List K) (k : K) → same k k ≡ true → (b : Bool) → is_among same ks k ≡ b → is_among same (cond b ks (ks ++ k ∷ [])) k ≡ true
  added_by same ks k e true h = h
  added_by same ks k e false h = any_added (same k) ks k e

  pub item_added : (same : K → K → Bool) (ks : List K) (k : K) → same k k ≡ true → is_among same (with_item same ks k) k ≡ true
  item_added same ks k e = added_by same ks k e (is_among same ks k) refl

-- REMEMBERED FIELDS

abbrev field : ℕ → ℕ → ℕ → ImageRemembered
field u a k = record { task = u; address = a; place = k }

one_field : (u a k : ℕ) (f : ImageRemembered) → same_field (u, a, k) (f.task, f.address, f.place) ≡ true → OfRemembered f ≡ OfRemembered (field u a k)
one_field u a k f e =
    let h = and_parts (u == f.task) ((a == f.address) && (k == f.place)) e in
    let g = and_parts (a == f.address) (k == f.place) h.1 in
    rw (eqb-true u f.task h.0, eqb-true a f.address g.0, eqb-true k f.place g.1) refl

field_line : (w : Whole) (s : ImageLine) (u a k : ℕ) → is_among same_field (with_line w s).fields (u, a, k) ≡ true → (is_among same_field w.fields (u, a, k) ≡ true) ⊎ (s ≡ OfRemembered (field u a k))
field_line w Nothing u a k e = inl e
field_line w Wrong u a k e = inl e
field_line w Title u a k e = inl e
field_line w (OfTask t) u a k e = inl e
field_line w (OfChunk c) u a k e = inl e
field_line w (OfObject o) u a k e = inl e
field_line w (OfEnd n) u a k e = inl e
field_line w (OfRemembered f) u a k e = field_line_by_cases (item_from same_field w.fields (f.task, f.address, f.place) (u, a, k) e)
  where
    field_line_by_cases : ((is_among same_field w.fields (u, a, k) ≡ true) ⊎ (same_field (u, a, k) (f.task, f.address, f.place) ≡ true)) → (is_among same_field w.fields (u, a, k) ≡ true) ⊎ (OfRemembered f ≡ OfRemembered (field u a k))
    field_line_by_cases (inl h) = inl h
    field_line_by_cases (inr h) = inr (one_field u a k f h)

pub field_from : (w : Whole) (ls : List (List ℕ)) (u a k : ℕ) → is_among same_field (with_lines w ls).fields (u, a, k) ≡ true → (is_among same_field w.fields (u, a, k) ≡ true) ⊎ IsRemembered ls u a k
field_from w [] u a k e = inl e
field_from w (l ∷ ls) u a k e = field_from_by_cases (field_from (with_line w (line_meaning l)) ls u a k e)
  where
    field_from_at : ((is_among same_field w.fields (u, a, k) ≡ true) ⊎ (line_meaning l ≡ OfRemembered (field u a k))) → (is_among same_field w.fields (u, a, k) ≡ true) ⊎ IsRemembered (l ∷ ls) u a k
    field_from_at (inl h) = inl h
    field_from_at (inr h) = inr (0, h)

    field_from_by_cases : ((is_among same_field (with_line w (line_meaning l)).fields (u, a, k) ≡ true) ⊎ IsRemembered ls u a k) → (is_among same_field w.fields (u, a, k) ≡ true) ⊎ IsRemembered (l ∷ ls) u a k
    field_from_by_cases (inl h) = field_from_at (field_line w (line_meaning l) u a k h)
    field_from_by_cases (inr h) = inr (suc h.0, h.1)

-- OBJECTS

object_line : (w : Whole) (s : ImageLine) (v : ℕ) → has (with_line w s).objects v ≡ true → (has w.objects v ≡ true) ⊎ ((o : ImageObject) × (s ≡ OfObject o) × (o.address ≡ v))
object_line w Nothing v e = inl e
object_line w Wrong v e = inl e
object_line w Title v e = inl e
object_line w (OfTask t) v e = inl e
object_line w (OfChunk c) v e = inl e
object_line w (OfRemembered f) v e = inl e
object_line w (OfEnd n) v e = inl e
object_line w (OfObject o) v e = object_line_by_cases (nat_eq v o.address) refl
  where
    object_line_by_cases : (b : Bool) → nat_eq v o.address ≡ b → (has w.objects v ≡ true) ⊎ ((p : ImageObject) × (OfObject o ≡ OfObject p) × (p.address ≡ v))
    object_line_by_cases true is = inr (o, refl, sym (eqb-true v o.address is))
    object_line_by_cases false is = inl (sym (ap is_some (found_beside w.objects o.address v (most (found w.objects o.address) (length o.references)) is)) ∙ e)

pub object_from : (w : Whole) (ls : List (List ℕ)) (v : ℕ) → has (with_lines w ls).objects v ≡ true → (has w.objects v ≡ true) ⊎ IsImageObjectAt ls v
object_from w [] v e = inl e
object_from w (l ∷ ls) v e = object_from_by_cases (object_from (with_line w (line_meaning l)) ls v e)
  where
    object_from_at : ((has w.objects v ≡ true) ⊎ ((o : ImageObject) × (line_meaning l ≡ OfObject o) × (o.address ≡ v))) → (has w.objects v ≡ true) ⊎ IsImageObjectAt (l ∷ ls) v
    object_from_at (inl h) = inl h
    object_from_at (inr h) = inr (0, h.0, h.1, h.2)

    object_from_by_cases : ((has (with_line w (line_meaning l)).objects v ≡ true) ⊎ IsImageObjectAt ls v) → (has w.objects v ≡ true) ⊎ IsImageObjectAt (l ∷ ls) v
    object_from_by_cases (inl h) = object_from_at (object_line w (line_meaning l) v h)
    object_from_by_cases (inr h) = inr (suc h.0, h.1, h.2, h.3)
