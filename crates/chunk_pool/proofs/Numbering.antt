-- Chunks that are numbered one after another.
use Rattle.chunk_pool.proofs.Common.{◌≡◌, ◌≢◌, ℕ, ◌+◌, true, false, cond, ◌||◌, Option, Some, None, List, [], ◌∷◌, ◌++◌, length, length-append, get_or, sym, ap, ◌∙◌, inl, inr, eqb, arith, append_assoc, All, cases_Bool, cases_eq, eq-eqb, ne_eqb, cond-true, cond-false, All-append, All-cons, All-head, All-nil, All-tail, or-false, or-true, ChunkValue, has_chunk, apart_more, has_append, has_one, Slot, AreNumbered, IsBlank, NumbersBehind, slot_in, one_unit, slot_units, units_in}
use Rattle.chunk_pool.proofs.UnitLemmas.{units_changed}

module _ (xs ys zs : List (Option Slot)) (owner : ℕ) (ks : List ChunkValue) (k : ChunkValue) (was : AreNumbered xs ys owner ks)
    (free : slot_in ys k.number ≡ None) (now : slot_in zs k.number ≡ Some (one_unit owner)) (others : (n : ℕ) → n ≢ k.number → slot_in zs n ≡ slot_in ys n) where
  abbrev mine : Option Slot
  mine = Some (one_unit owner)

  new : has_chunk ks k.number ≡ false
  new = elim (cases_Bool (has_chunk ks k.number)) [
    | inl e ↦ absurd (let h : mine ≡ None = sym (cond-true (has_chunk ks k.number) mine (slot_in xs k.number) e) ∙ (sym (was.each k.number) ∙ free) in cc)
    | inr e ↦ e
  ]

  first_free : slot_in xs k.number ≡ None
  first_free = sym (cond-false (has_chunk ks k.number) mine (slot_in xs k.number) new) ∙ (sym (was.each k.number) ∙ free)

  both : (n : ℕ) → has_chunk (ks ++ k ∷ []) n ≡ (has_chunk ks n || eqb k.number n)
  both n = has_append ks (k ∷ []) n ∙ ap (λ b. has_chunk ks n || b) (has_one k n)

  each : (n : ℕ) → slot_in zs n ≡ cond (has_chunk (ks ++ k ∷ []) n) mine (slot_in xs n)
  each n = elim (cases_eq n k.number) [
    | inl e ↦
        let there : has_chunk (ks ++ k ∷ []) n ≡ true = both n ∙ (ap (λ b. has_chunk ks n || b) (eq-eqb k.number n (sym e)) ∙ or-true (has_chunk ks n)) in
        ap (slot_in zs) e ∙ (now ∙ sym (cond-true (has_chunk (ks ++ k ∷ []) n) mine (slot_in xs n) there))
    | inr ne ↦
        let same : has_chunk (ks ++ k ∷ []) n ≡ has_chunk ks n = both n ∙ (ap (λ b. has_chunk ks n || b) (ne_eqb k.number n (λ h. ne (sym h))) ∙ or-false (has_chunk ks n)) in
        others n ne ∙ (was.each n ∙ sym (ap (λ b. cond b mine (slot_in xs n)) same))
  ]

  pub numbered_more : AreNumbered xs zs owner (ks ++ k ∷ [])
  numbered_more =
      let change : units_in zs + slot_units (get_or ys k.number None) ≡ units_in ys + slot_units (get_or zs k.number None) = units_changed k.number ys zs others in
      let a : slot_units (get_or ys k.number None) ≡ 0 = ap slot_units free in
      let b : slot_units (get_or zs k.number None) ≡ 1 = ap slot_units now in
      let more : length (ks ++ k ∷ []) ≡ length ks + 1 = length-append ks (k ∷ []) in
      record {
        were_free = All-append (λ x. slot_in xs x.number ≡ None) ks (k ∷ []) was.were_free (All-cons (λ x. slot_in xs x.number ≡ None) k [] first_free (All-nil (λ x. slot_in xs x.number ≡ None)));
        apart = apart_more ks k was.apart new;
        each = each;
        units = let u : units_in ys ≡ units_in xs + length ks = was.units in omega (arith, change);
      }

pub behind_more : (xs ys zs : List (Option Slot)) (owner i j : ℕ) (was is : List ChunkValue) (k : ChunkValue) → NumbersBehind xs ys owner i was is → IsBlank k → slot_in ys k.number ≡ None
    → slot_in zs k.number ≡ Some (one_unit owner) → ((n : ℕ) → n ≢ k.number → slot_in zs n ≡ slot_in ys n) → j ≡ i + 1 → NumbersBehind xs zs owner j was (is ++ k ∷ [])
behind_more xs ys zs owner i j was is k b blank free now others e = record {
  chunks = b.chunks ++ k ∷ [];
  behind = ap (λ ks. ks ++ k ∷ []) b.behind ∙ append_assoc was b.chunks (k ∷ []);
  count = let c : length b.chunks ≡ i = b.count in let more : length (b.chunks ++ k ∷ []) ≡ length b.chunks + 1 = length-append b.chunks (k ∷ []) in omega arith;
  blank = All-append IsBlank b.chunks (k ∷ []) b.blank (All-cons IsBlank k [] blank (All-nil IsBlank));
  numbered = numbered_more xs ys zs owner b.chunks k b.numbered free now others;
}

pub all_left : (xs ys : List ChunkValue) → All IsBlank (xs ++ ys) → All IsBlank xs
all_left [] ys h = All-nil IsBlank
all_left (x ∷ xs) ys h = All-cons IsBlank x xs (All-head IsBlank x (xs ++ ys) h) (all_left xs ys (All-tail IsBlank x (xs ++ ys) h))

pub all_right : (xs ys : List ChunkValue) → All IsBlank (xs ++ ys) → All IsBlank ys
all_right [] ys h = h
all_right (x ∷ xs) ys h = all_right xs ys (All-tail IsBlank x (xs ++ ys) h)
