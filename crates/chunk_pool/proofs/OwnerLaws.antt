-- The owner of a number in use.
use Rattle.chunk_pool.proofs.Common.{◌≡◌, ◌≢◌, ℕ, Bool, true, false, ◌⊎◌, inl, inr, Option, Some, None, refl, sym, ap, ◌∙◌, subst, IfSome, IsSome, option_map, cases_eq, cond-true, cond-false, false≢true, has_chunk, Slot, PoolValue, slot_at, one_unit, owner_of, KeepsOthers, OwnersFrom, OwnersStay, TakenAreOwned}

stay : (old new : PoolValue) (n : ℕ) → KeepsOthers old new n → OwnersStay old new n
stay old new n kept = λ k ne. ap (λ (o : Option Slot). option_map (λ (h : Slot). h.owner) o) (kept.others k ne)

-- the slot at the number is one of these
from : (old new : PoolValue) (n o : ℕ) → KeepsOthers old new n → ((u : ℕ) → owner_of new n ≡ Some u → u ≡ o) → OwnersFrom old new n o
from old new n o kept here = λ k u e. elim (cases_eq k n) [
  | inl is ↦ inl (is, here u (ap (owner_of new) (sym is) ∙ e))
  | inr ne ↦ inr (sym (stay old new n kept k ne) ∙ e)
]

mapped : (h : Slot) (u : ℕ) (o : Option Slot) → o ≡ Some h → option_map (λ (x : Slot). x.owner) o ≡ Some u → u ≡ h.owner
mapped h u o is e = let q : Some h.owner ≡ Some u = ap (λ (x : Option Slot). option_map (λ (y : Slot). y.owner) x) (sym is) ∙ e in cc

relabelled : (new : PoolValue) (n o : ℕ) (was : Option Slot) → IsSome was → IfSome was (λ h. slot_at new n ≡ Some (record h { owner = o })) → (u : ℕ) → owner_of new n ≡ Some u → u ≡ o
relabelled new n o None used r u e = absurd (false≢true used)
relabelled new n o (Some h) used r u e = mapped (record h { owner = o }) u (slot_at new n) r e

pub taken_are_owned : TakenAreOwned
taken_are_owned old new o count was is t k = (
  (λ e. ap (λ (x : Option Slot). option_map (λ (y : Slot). y.owner) x) (t.numbers.numbered.each k ∙ cond-true (has_chunk t.numbers.chunks k) (Some (one_unit o)) (slot_at old k) e)),
  (λ e. ap (λ (x : Option Slot). option_map (λ (y : Slot). y.owner) x) (t.numbers.numbered.each k ∙ cond-false (has_chunk t.numbers.chunks k) (Some (one_unit o)) (slot_at old k) e)),
)
