-- Chunks that were taken together are so in any order.
use Rattle.leaf_collections.proofs.Common.{◌≡◌, ℕ, ◌+◌, false, cond, ◌==◌, eqb, inl, inr, Option, Some, None, List, [], ◌∷◌, length, map, refl, sym, ap, subst, ◌∙◌, AllByRecursion, list_any, IsPermutation, cases_eq, or_from, All-permutation, IsPermutation-map, length_permutation, list_any-IsPermutation, IsDistinct-IsPermutation, ChunkValue, number_of, has_chunk, found_any, fresh_none, Slot, PoolValue, IsBlank, NumbersBehind, TakesAll, slot_in, one_unit, units_in}
use Rattle.std.specs.List.{IsDistinct}
use Rattle.std.proofs.lemmas.Bool.{eq-eqb, ne_eqb}
use Rattle.core_invariant.specs.below.object_layout.{HaveDistinctNumbers}
use Rattle.leaf_collections.proofs.NewChunks.{distinct_numbers}

-- THE SAME NUMBERS

same_numbers : (ks ls : List ChunkValue) (n : ℕ) → IsPermutation ks ls → has_chunk ks n ≡ has_chunk ls n
same_numbers ks ls n p = found_any ks n ∙ (list_any-IsPermutation (λ (k : ChunkValue). eqb k.number n) ks ls p ∙ sym (found_any ls n))

flips : (a b : ℕ) → (a == b) ≡ (b == a)
flips a b = elim (cases_eq a b) [ inl e ↦ eq-eqb a b e ∙ sym (eq-eqb b a (sym e)) | inr ne ↦ ne_eqb a b ne ∙ sym (ne_eqb b a (λ e. ne (sym e))) ]

none_named : (n : ℕ) (ks : List ChunkValue) → AllByRecursion (λ y. (n == y) ≡ false) (map number_of ks) → list_any (λ k. eqb k.number n) ks ≡ false
none_named n [] a = refl
none_named n (k ∷ ks) a = or_from (eqb k.number n) (list_any (λ x. eqb x.number n) ks) (flips k.number n ∙ a.0) (none_named n ks a.1)

apart_by_numbers : (ks : List ChunkValue) → IsDistinct (λ j k. j == k) (map number_of ks) → HaveDistinctNumbers ks
unfolding IsDistinct
apart_by_numbers [] d = tt
apart_by_numbers (k ∷ ks) d = ((fresh_none ks k.number).1 (found_any ks k.number ∙ none_named k.number ks d.0), apart_by_numbers ks d.1)

still_apart : (ks ls : List ChunkValue) → IsPermutation ks ls → HaveDistinctNumbers ks → HaveDistinctNumbers ls
still_apart ks ls p a = apart_by_numbers ls (IsDistinct-IsPermutation (λ j k. j == k) flips (map number_of ks) (map number_of ls) (IsPermutation-map number_of ks ls p) (distinct_numbers ks a))

-- THE POOL

module _ (old new : List (Option Slot)) (owner count : ℕ) (is js : List ChunkValue) (b : NumbersBehind old new owner count [] is) (p : IsPermutation is js) where
  among : IsPermutation b.chunks js
  among = subst (λ (xs : List ChunkValue). IsPermutation xs js) b.behind p

  long : length js ≡ length b.chunks
  long = length_permutation b.chunks js among

  numbered_still : NumbersBehind old new owner count [] js
  numbered_still = record {
    chunks = js;
    behind = refl;
    count = long ∙ b.count;
    blank = All-permutation IsBlank b.chunks js among b.blank;
    numbered = record {
      were_free = All-permutation (λ k. slot_in old k.number ≡ None) b.chunks js among b.numbered.were_free;
      apart = still_apart b.chunks js among b.numbered.apart;
      each = λ n. b.numbered.each n ∙ ap (λ c. cond c (Some (one_unit owner)) (slot_in old n)) (same_numbers b.chunks js n among);
      units = b.numbered.units ∙ ap (λ n. units_in old + n) (sym long);
    };
  }

-- chunks that were taken into an empty list, in another order
pub taken_still : (old new : PoolValue) (owner count : ℕ) (was is js : List ChunkValue) → was ≡ [] → TakesAll old new owner count was is → IsPermutation is js → TakesAll old new owner count [] js
taken_still old new owner count was is js none t p =
    let u : TakesAll old new owner count [] is = subst (λ (xs : List ChunkValue). TakesAll old new owner count xs is) none t in
    record { limit = u.limit; numbers = numbered_still old.slots new.slots owner count is js u.numbers p }
