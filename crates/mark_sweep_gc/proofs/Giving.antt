-- Chunks released one after another.
use Rattle.mark_sweep_gc.proofs.Common.{◌≡◌, ℕ, zero, suc, ◌+◌, ◌<◌, Bool, true, false, cond, List, [], ◌∷◌, ◌++◌, length, filter, map, take, get_or, refl, sym, ap, ◌∙◌, subst, arith, ◌⊎◌, inl, inr, eqb, Some, None, All, IsSome, cases_Bool, eq-eqb, eqb-true, lt-ltb, ne_eqb, false≢true, take_more, map-append, All-append, All-cons, All-head, All-nil, All-tail, ChunkValue, place_in, chunk_position, HaveDistinctNumbers, IsFresh, counted32, unit_count, fresh_behind, fresh_cons, fresh_front, fresh_head, fresh_tail, PoolValue, Releases, slot_at, slot_units, AreGiven, units_in_slots}

-- ---- fresh numbers

fresh_step : (k : ChunkValue) (ks : List ChunkValue) (n : ℕ) (b : Bool) → IsFresh (k ∷ ks) n → (ls : List ChunkValue) → IsFresh ls n → IsFresh (cond b (k ∷ ls) ls) n
fresh_step k ks n true f ls g = fresh_cons k ls n (fresh_head k ks n f) g
fresh_step k ks n false f ls g = g

-- of some of the chunks
pub fresh_filtered : (p : ChunkValue → Bool) (ks : List ChunkValue) (n : ℕ) → IsFresh ks n → IsFresh (filter p ks) n
fresh_filtered p [] n f = f
fresh_filtered p (k ∷ ks) n f = fresh_step k ks n (p k) f (filter p ks) (fresh_filtered p ks n (fresh_tail k ks n f))

apart_step : (k : ChunkValue) (ks : List ChunkValue) (b : Bool) → IsFresh ks k.number → HaveDistinctNumbers ks → HaveDistinctNumbers (cond b (k ∷ ks) ks)
apart_step k ks true f a = (f, a)
apart_step k ks false f a = a

pub apart_filtered : (p : ChunkValue → Bool) (ks : List ChunkValue) → HaveDistinctNumbers ks → HaveDistinctNumbers (filter p ks)
apart_filtered p [] a = a
apart_filtered p (k ∷ ks) a = apart_step k (filter p ks) (p k) (fresh_filtered p ks k.number a.0) (apart_filtered p ks a.1)

pub fresh_both : (ks ls : List ChunkValue) (n : ℕ) → IsFresh ks n → IsFresh ls n → IsFresh (ks ++ ls) n
fresh_both [] ls n f g = g
fresh_both (k ∷ ks) ls n f g = fresh_cons k (ks ++ ls) n (fresh_head k ks n f) (fresh_both ks ls n (fresh_tail k ks n f) g)

-- ---- a chunk is looked up by its number

there_at : (ks : List ChunkValue) (i n : ℕ) (d : ChunkValue) → i < length ks → IsFresh (take i ks) n → (get_or ks i d).number ≡ n → chunk_position ks n ≡ i
there_at [] i n d l f e = absurd (omega arith)
there_at (k ∷ ks) zero n d l f e = rw (eq-eqb k.number n e) refl
there_at (k ∷ ks) (suc i) n d l f e =
    let ih : chunk_position ks n ≡ i = there_at ks i n d (omega arith) (fresh_tail k (take i ks) n f) e in
    rw (ne_eqb k.number n (fresh_head k (take i ks) n f)) (omega arith)

pub found_at : (ks : List ChunkValue) (i n : ℕ) (d : ChunkValue) → i < length ks → IsFresh (take i ks) n → (get_or ks i d).number ≡ n → Some i ≡ place_in ks n
found_at ks i n d l f e = sym (rw (there_at ks i n d l f e, lt-ltb i (length ks) l) refl)

pub fresh_more : (ks : List ChunkValue) (i n : ℕ) (d : ChunkValue) → i < length ks → IsFresh (take i ks) n → ((get_or ks i d).number ≡ n → ⊥) → IsFresh (take (i + 1) ks) n
fresh_more ks i n d l f ne =
    subst (λ (xs : List ChunkValue). IsFresh xs n) (sym (take_more ks i d l)) (fresh_both (take i ks) (get_or ks i d ∷ []) n f (fresh_cons (get_or ks i d) [] n ne refl))

-- ---- chunks released

pub given_one : (p q : PoolValue) (k : ChunkValue) → Releases p q k.number → AreGiven p q (k ∷ [])
given_one p q k g = record {
  free = All-cons (λ k. slot_at q k.number ≡ None) k [] g.free (All-nil (λ k. slot_at q k.number ≡ None));
  others = λ n f. g.rest.others n (λ e. fresh_head k [] n f (sym e));
  limit = g.rest.limit;
  units = let u = g.units in omega arith;
}

-- the number is that of one of these, which is free, or it is fresh
fresh_or_free : (r : PoolValue) (ls : List ChunkValue) (n : ℕ) → All (λ k. slot_at r k.number ≡ None) ls → IsFresh ls n ⊎ (slot_at r n ≡ None)
fresh_or_free r [] n a = inl refl
fresh_or_free r (k ∷ ls) n a =
    elim (cases_Bool (eqb k.number n)) [
      | inl e ↦ inr (subst (λ (m : ℕ). slot_at r m ≡ None) (eqb-true k.number n e) (All-head (λ k. slot_at r k.number ≡ None) k ls a))
      | inr e ↦ elim (fresh_or_free r ls n (All-tail (λ k. slot_at r k.number ≡ None) k ls a)) [
        | inl f ↦ inl (fresh_cons k ls n (λ q. false≢true (sym e ∙ fresh_or_free_same k.number n q)) f)
        | inr h ↦ inr h
      ]
    ]
  where
    fresh_or_free_same : (a b : ℕ) → a ≡ b → eqb a b ≡ true
    fresh_or_free_same a b q = grind arith

still_free : (q r : PoolValue) (ks ls : List ChunkValue) → All (λ k. slot_at q k.number ≡ None) ks → AreGiven q r ls → All (λ k. slot_at r k.number ≡ None) ks
still_free q r [] ls a g = All-nil (λ k. slot_at r k.number ≡ None)
still_free q r (k ∷ ks) ls a g =
    All-cons (λ k. slot_at r k.number ≡ None) k ks
    (elim (fresh_or_free r ls k.number g.free) [
      | inl f ↦ g.others k.number f ∙ All-head (λ k. slot_at q k.number ≡ None) k ks a
      | inr h ↦ h
    ])
    (still_free q r ks ls (All-tail (λ k. slot_at q k.number ≡ None) k ks a) g)

units_append : (p : PoolValue) (ks ls : List ChunkValue) → units_in_slots p (ks ++ ls) ≡ units_in_slots p ks + units_in_slots p ls
units_append p [] ls = omega arith
units_append p (k ∷ ks) ls = let ih = units_append p ks ls in omega arith

units_same : (p q : PoolValue) (ks ls : List ChunkValue) → AreGiven p q ks → All (λ l. IsFresh ks l.number) ls → units_in_slots q ls ≡ units_in_slots p ls
units_same p q ks [] g a = refl
units_same p q ks (l ∷ ls) g a =
    let here : slot_units (slot_at q l.number) ≡ slot_units (slot_at p l.number) = ap slot_units (g.others l.number (All-head (λ l. IsFresh ks l.number) l ls a)) in
    let ih = units_same p q ks ls g (All-tail (λ l. IsFresh ks l.number) l ls a) in
    omega arith

-- one after the other
pub given_both : (p q r : PoolValue) (ks ls : List ChunkValue) → AreGiven p q ks → AreGiven q r ls → All (λ l. IsFresh ks l.number) ls → AreGiven p r (ks ++ ls)
given_both p q r ks ls g h a = record {
  free = All-append (λ k. slot_at r k.number ≡ None) ks ls (still_free q r ks ls g.free h) h.free;
  others = λ n f. h.others n (fresh_behind ks ls n f) ∙ g.others n (fresh_front ks ls n f);
  limit = h.limit ∙ g.limit;
  units =
      let one = g.units in
      let two = h.units in
      let same = units_same p q ks ls g a in
      let sum = units_append p ks ls in
      omega arith;
}

pub unit_sum : (xs ys : List ChunkValue) → unit_count (xs ++ ys) ≡ unit_count xs + unit_count ys
unit_sum [] ys = omega arith
unit_sum (x ∷ xs) ys = let ih = unit_sum xs ys in omega arith

-- one more chunk of a list, of which some are released
module _ (p : ChunkValue → Bool) (ks : List ChunkValue) (k : ChunkValue) where
  fresh_some : IsFresh ks k.number → (b : Bool) → All (λ l. IsFresh (filter p ks) l.number) (cond b (k ∷ []) [])
  fresh_some fresh true = All-cons (λ l. IsFresh (filter p ks) l.number) k [] (fresh_filtered p ks k.number fresh) (All-nil (λ l. IsFresh (filter p ks) l.number))
  fresh_some fresh false = All-nil (λ l. IsFresh (filter p ks) l.number)

  filter_more : (xs : List ChunkValue) → filter p (xs ++ k ∷ []) ≡ filter p xs ++ filter p (k ∷ [])
  filter_more [] = refl
  filter_more (x ∷ xs) = step (p x) (filter_more xs)
    where
      step : (b : Bool) → filter p (xs ++ k ∷ []) ≡ filter p xs ++ filter p (k ∷ []) → cond b (x ∷ filter p (xs ++ k ∷ [])) (filter p (xs ++ k ∷ [])) ≡ cond b (x ∷ filter p xs) (filter p xs) ++ filter p (k ∷ [])
      step true e = ap (λ (ys : List ChunkValue). x ∷ ys) e
      step false e = e

  -- a count of units, one chunk on
  pub counted_more : (n m : ℕ) → n ≡ counted32 (unit_count (filter p ks)) → m ≡ counted32 (n + unit_count (filter p (k ∷ []))) → m ≡ counted32 (unit_count (filter p (ks ++ k ∷ [])))
  counted_more n m e f =
      let sum : unit_count (filter p (ks ++ k ∷ [])) ≡ unit_count (filter p ks) + unit_count (filter p (k ∷ [])) = ap unit_count (filter_more ks) ∙ unit_sum (filter p ks) (filter p (k ∷ [])) in
      omega arith

  pub mapped_more : (f : ChunkValue → ChunkValue) → map f (filter p (ks ++ k ∷ [])) ≡ map f (filter p ks) ++ map f (filter p (k ∷ []))
  mapped_more f = ap (map f) (filter_more ks) ∙ map-append f (filter p ks) (filter p (k ∷ []))

  pub given_more : IsFresh ks k.number → (a b c : PoolValue) → AreGiven a b (filter p ks) → AreGiven b c (filter p (k ∷ [])) → AreGiven a c (filter p (ks ++ k ∷ []))
  given_more fresh a b c g h = subst (λ (xs : List ChunkValue). AreGiven a c xs) (sym (filter_more ks)) (given_both a b c (filter p ks) (filter p (k ∷ [])) g h (fresh_some fresh (p k)))

-- a chunk that isn't released yet is still in use
pub still_in_use : (a b : PoolValue) (p : ChunkValue → Bool) (ks : List ChunkValue) (k : ChunkValue) → IsFresh ks k.number → AreGiven a b (filter p ks) → IsSome (slot_at a k.number) → IsSome (slot_at b k.number)
still_in_use a b p ks k f g s = subst (λ o. IsSome o) (sym (g.others k.number (fresh_filtered p ks k.number f))) s
