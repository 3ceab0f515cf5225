-- What a set holds after others were lifted into it.
use Rattle.remembered_set.proofs.Common.{◌≡◌, Bool, true, false, cond, List, [], ◌∷◌, ◌++◌, fold, ◌⊎◌, inl, inr, refl, sym, ap, subst, not, not-true, has_chunk, In, contains_from_in, in_append_cases, in_append_left, in_append_right, in_from_any, in_from_contains, in_from_kept, in_kept, RefField, has_source, lifted, with_noted_source, outside, same_source, LiftedAreThere}
use Rattle.remembered_set.proofs.Noting.{same_is}

pub source_in : (xs : List RefField) (s : RefField) → has_source xs s ≡ true → In xs s
source_in xs s e = let f = in_from_any (same_source s) xs e in subst (λ (y : RefField). In xs y) (sym (same_is s f.0 f.2)) f.1

old_by : (b : Bool) (xs : List RefField) (s t : RefField) → In xs t → In (cond b xs (xs ++ s ∷ [])) t
old_by true xs s t h = h
old_by false xs s t h = in_append_left xs (s ∷ []) t h

new_by : (b : Bool) (xs : List RefField) (s : RefField) → has_source xs s ≡ b → In (cond b xs (xs ++ s ∷ [])) s
new_by true xs s e = source_in xs s e
new_by false xs s e = in_append_right xs (s ∷ []) s (inl refl)

cases_by : (b : Bool) (xs : List RefField) (s t : RefField) → In (cond b xs (xs ++ s ∷ [])) t → In xs t ⊎ (s ≡ t)
cases_by true xs s t h = inl h
cases_by false xs s t h = elim (in_append_cases xs (s ∷ []) t h) [ inl i ↦ inl i | inr i ↦ elim i [ inl e ↦ inr e | inr n ↦ absurd n ] ]

in_all_old : (ys xs : List RefField) (t : RefField) → In xs t → In (fold with_noted_source xs ys) t
in_all_old [] xs t h = h
in_all_old (y ∷ ys) xs t h = in_all_old ys (with_noted_source xs y) t (old_by (has_source xs y) xs y t h)

in_all_new : (ys xs : List RefField) (t : RefField) → In ys t → In (fold with_noted_source xs ys) t
in_all_new [] xs t h = absurd h
in_all_new (y ∷ ys) xs t (inl e) = in_all_old ys (with_noted_source xs y) t (subst (λ (z : RefField). In (with_noted_source xs y) z) e (new_by (has_source xs y) xs y refl))
in_all_new (y ∷ ys) xs t (inr h) = in_all_new ys (with_noted_source xs y) t h

in_all_cases : (ys xs : List RefField) (t : RefField) → In (fold with_noted_source xs ys) t → In xs t ⊎ In ys t
in_all_cases [] xs t h = inl h
in_all_cases (y ∷ ys) xs t h = elim (in_all_cases ys (with_noted_source xs y) t h) [
  | inl a ↦ elim (cases_by (has_source xs y) xs y t a) [ inl b ↦ inl b | inr e ↦ inr (inl e) ]
  | inr a ↦ inr (inr a)
]

pub lifted_are_there : LiftedAreThere
lifted_are_there xs ys ks t =
    let p = λ (s : RefField). not (has_chunk ks s.object.chunk) in (
      (λ h. elim (in_all_cases (outside ks ys) xs t (in_from_contains (lifted xs ys ks) t h)) [
        | inl a ↦ inl (contains_from_in xs t a)
        | inr a ↦ let r = in_from_kept p ys t a in inr (contains_from_in ys t r.0, not-true (has_chunk ks t.object.chunk) r.1)
      ]),
      (λ h. contains_from_in (lifted xs ys ks) t (elim h [
        | inl a ↦ in_all_old (outside ks ys) xs t (in_from_contains xs t a)
        | inr a ↦ in_all_new (outside ks ys) xs t (in_kept p ys t (in_from_contains ys t a.0) (ap not a.1))
      ])),
    )
