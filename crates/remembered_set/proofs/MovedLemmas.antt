-- The new address of an address, in a sorted relocation list.
use Rattle.remembered_set.proofs.Common.{◌≡◌, ℕ, zero, suc, ◌+◌, ◌^◌, ◌<◌, ◌≤◌, true, false, List, [], ◌∷◌, length, get_or, refl, ap, arith, ⊎_elim, eqb, Some, None, and_from, and_parts, cases_Bool, cases_lt, eq-eqb, eqb-true, get_or_default, Addr, new_of, address_key, same_address, AreAscending, ArePlaces}

same_parts : (a b : Addr) → same_address a b ≡ true → (a.chunk ≡ b.chunk) × (a.offset ≡ b.offset)
same_parts a b e =
    let p = and_parts (eqb a.chunk b.chunk) (eqb a.offset b.offset) e in
    (eqb-true a.chunk b.chunk p.0, eqb-true a.offset b.offset p.1)

pub same_from_number : (a b : Addr) → a.offset < 2 ^ 32 → b.offset < 2 ^ 32 → address_key a ≡ address_key b → same_address a b ≡ true
same_from_number a b p q e =
    let chunk : a.chunk ≡ b.chunk = omega arith in
    let offset : a.offset ≡ b.offset = omega arith in
    and_from (eqb a.chunk b.chunk) (eqb a.offset b.offset) (eq-eqb a.chunk b.chunk chunk) (eq-eqb a.offset b.offset offset)

number_same : (a b : Addr) → same_address a b ≡ true → address_key a ≡ address_key b
number_same a b e =
    let p = same_parts a b e in
    let chunk : a.chunk ≡ b.chunk = p.0 in
    let offset : a.offset ≡ b.offset = p.1 in
    omega arith

tail_in_order : (m : Addr × Addr) (ms : List (Addr × Addr)) → AreAscending (m ∷ ms) → AreAscending ms
tail_in_order m ms h i j d l k = h (suc i) (suc j) d (omega arith) (omega arith)

pub new_of-none : (ms : List (Addr × Addr)) (a : Addr) → ((i : ℕ) (d : Addr × Addr) → i < length ms → address_key (get_or ms i d).0 ≡ address_key a → ⊥) → new_of ms a ≡ None
new_of-none [] a h = refl
new_of-none (m ∷ ms) a h =
    ⊎_elim
    (λ (e : same_address m.0 a ≡ true). absurd (h 0 m (omega arith) (number_same m.0 a e)))
    (λ (e : same_address m.0 a ≡ false). rw e (new_of-none ms a (λ i d l. h (suc i) d (omega arith))))
    (cases_Bool (same_address m.0 a))

pub new_of-found : (ms : List (Addr × Addr)) → AreAscending ms → (a : Addr) (i : ℕ) (d : Addr × Addr) → i < length ms → same_address (get_or ms i d).0 a ≡ true → new_of ms a ≡ Some (get_or ms i d).1
new_of-found [] h a i d l e = absurd (omega arith)
new_of-found (m ∷ ms) h a zero d l e = rw e
new_of-found (m ∷ ms) h a (suc i) d l e =
    ⊎_elim
    (λ (f : same_address m.0 a ≡ true).
    let less = h 0 (suc i) d (omega arith) l in
    let here = number_same m.0 a f in
    let there = number_same (get_or ms i d).0 a e in
    absurd (omega arith))
    (λ (f : same_address m.0 a ≡ false). rw f (new_of-found ms (tail_in_order m ms h) a i d (omega arith) e))
    (cases_Bool (same_address m.0 a))

-- one step of a search
module _ (ms : List (Addr × Addr)) (order : AreAscending ms) (m w : ℕ) (e : Addr × Addr) (l : m < length ms) where
  pub below_more : address_key (get_or ms m e).0 < w → (i : ℕ) (d : Addr × Addr) → i < m + 1 → address_key (get_or ms i d).0 < w
  below_more less i d k =
      let same = ap (λ (x : Addr × Addr). address_key x.0) (get_or_default ms m e d l) in
      ⊎_elim
      (λ (b : i < m). let o = order i m d b l in omega arith)
      (λ (b : m ≤ i). let i' : i ≡ m = omega arith in rw i' (omega arith))
      (cases_lt i m)

  pub above_more : w < address_key (get_or ms m e).0 → (i : ℕ) (d : Addr × Addr) → m ≤ i → i < length ms → w < address_key (get_or ms i d).0
  above_more more i d k in' =
      let same = ap (λ (x : Addr × Addr). address_key x.0) (get_or_default ms m e d l) in
      ⊎_elim
      (λ (b : m < i). let o = order m i d b in' in omega arith)
      (λ (b : i ≤ m). let i' : i ≡ m = omega arith in rw i' (omega arith))
      (cases_lt m i)

pub place_of_new : (ms : List (Addr × Addr)) (a b : Addr) → ArePlaces ms → new_of ms a ≡ Some b → b.offset < 1024
place_of_new [] a b h e = cc
place_of_new (m ∷ ms) a b h e =
    ⊎_elim
    (λ (s : same_address m.0 a ≡ true). let f : m.1 ≡ b = let g = rw s at e in cc in rw (← f) h.0)
    (λ (s : same_address m.0 a ≡ false). place_of_new ms a b h.1 (rw s at e))
    (cases_Bool (same_address m.0 a))
