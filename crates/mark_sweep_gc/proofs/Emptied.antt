-- A table of addresses from which these are removed one by one.
use Rattle.mark_sweep_gc.proofs.Common.{◌≡◌, ℕ, ◌+◌, ◌<◌, ◌≤◌, Bool, true, false, cond, List, [], ◌∷◌, length, get_or, drop, refl, sym, ◌∙◌, subst, inl, inr, Contains, false≢true, false_from_ne_true, drop_all, drop_more, Addr, same_self, In, contains_from_in, in_from_contains}
use Rattle.mark_sweep_gc.specs.MarkingValue.{has_address, same_address}
use Rattle.mark_sweep_gc.proofs.Addresses.{has_in}

-- what is left in the table is not the address that was removed
left_by : (x a : Addr) (rest : List Addr) (b : Bool) → same_address x a ≡ b → (old new : Bool) → (old ≡ true → In (x ∷ rest) a) → new ≡ cond b false old → new ≡ true → In rest a
left_by x a rest true s old new is e t = absurd (false≢true (sym e ∙ t))
left_by x a rest false s old new is e t = elim (is (sym e ∙ t)) [
  | inl same ↦ absurd (false≢true (sym s ∙ subst (λ (y : Addr). same_address x y ≡ true) same (same_self x)))
  | inr i ↦ i
]

pub taken_out : (xs : List Addr) (k : ℕ) (d : Addr) (old new : Addr → Bool) → k < length xs → ((a : Addr) → old a ≡ true → Contains (drop k xs) a)
    → ((a : Addr) → new a ≡ cond (same_address (get_or xs k d) a) false (old a)) → (a : Addr) → new a ≡ true → Contains (drop (k + 1) xs) a
taken_out xs k d old new l left e a t =
    contains_from_in (drop (k + 1) xs) a (left_by (get_or xs k d) a (drop (k + 1) xs) (same_address (get_or xs k d) a) refl (old a) (new a)
    (λ o. subst (λ (ys : List Addr). In ys a) (drop_more xs k d l) (in_from_contains (drop k xs) a (left a o))) (e a) t)

pub at_first : (xs : List Addr) (old : Addr → Bool) → ((a : Addr) → old a ≡ has_address xs a) → (a : Addr) → old a ≡ true → Contains (drop 0 xs) a
at_first xs old is a o = contains_from_in xs a (has_in xs a (sym (is a) ∙ o))

-- in the end nothing is left
pub at_last : (xs : List Addr) (k : ℕ) (new : Addr → Bool) → length xs ≤ k → ((a : Addr) → new a ≡ true → Contains (drop k xs) a) → (a : Addr) → new a ≡ false
at_last xs k new l left a = false_from_ne_true (new a) (λ t. in_from_contains [] a (subst (λ (ys : List Addr). Contains ys a) (drop_all k xs l) (left a t)))
