-- The relocation list is sorted by the old addresses.
use Rattle.copying_gc.proofs.Common.{◌≡◌, ℕ, zero, suc, ◌+◌, ◌<◌, ◌≤◌, false, List, [], ◌∷◌, length, get_or, map, refl, sym, ap, subst, arith, inl, inr, eq-eqb, is_lt, nat_cmp, All, Option, Some, ordering_then, Ordering, IsPermutation, IsPermutation-map, IsPermutation-sym, Contains-permutation, cases_lt, lt-ltb, le-ltb, false≢true, Addr, ChunkValue, cell_of, HeapIsClosed, HasObjectAt, IsSoundReference, RefersTo, Once, AreAscending, In, contains_from_in, in_from_contains, read_in, reached_within, live_chunk, IsSurvivor, CopyStarts, Laying, laid_one, relocations, address_key}
use Rattle.copying_gc.proofs.Evacuated.{once_sorted}

abbrev pub first_in : Addr × Addr → Addr
first_in m = m.0

abbrev pub pair_order : Addr × Addr → Addr × Addr → Ordering
pair_order p q =
    ordering_then (ordering_then (nat_cmp p.0.chunk q.0.chunk) (nat_cmp p.0.offset q.0.offset))
    (ordering_then (nat_cmp p.1.chunk q.1.chunk) (nat_cmp p.1.offset q.1.offset))

first_less : (a b : Addr) (rest : Ordering) → is_lt (ordering_then (ordering_then (nat_cmp b.chunk a.chunk) (nat_cmp b.offset a.offset)) rest) ≡ false
    → (a ≡ b → ⊥) → a.offset < 1024 → b.offset < 1024 → address_key a < address_key b
first_less a b rest h n s t =
    elim (cases_lt b.chunk a.chunk) [
      | inl l ↦ absurd (false≢true (sym (rw (lt-ltb b.chunk a.chunk l) at h)))
      | inr ge ↦ elim (cases_lt a.chunk b.chunk) [
        | inl l ↦ omega arith
        | inr le ↦
            let e : a.chunk ≡ b.chunk = omega arith in
            let g = rw (le-ltb b.chunk a.chunk ge, eq-eqb b.chunk a.chunk (sym e)) at h in
            elim (cases_lt b.offset a.offset) [
              | inl l ↦ absurd (false≢true (sym (rw (lt-ltb b.offset a.offset l) at g)))
              | inr up ↦ elim (cases_lt a.offset b.offset) [
                | inl l ↦ omega arith
                | inr down ↦ let f : a.offset ≡ b.offset = omega arith in absurd (n (λ i. record { chunk = e i; offset = f i }))
              ]
            ]
      ]
    ]

abbrev pub AreSorted : List (Addr × Addr) → Type 0
AreSorted ms = (k : ℕ) (d : Addr × Addr) → 0 ≤ k → k + 1 < length ms → is_lt (pair_order (get_or ms (k + 1) d) (get_or ms k d)) ≡ false

abbrev pub Rising : List (Addr × Addr) → Type 0
Rising [] = Unit {0}
Rising (m ∷ []) = Unit {0}
Rising (m ∷ (n ∷ ms)) = (address_key m.0 < address_key n.0) × Rising (n ∷ ms)

sorted_tail : (m : Addr × Addr) (ms : List (Addr × Addr)) → AreSorted (m ∷ ms) → AreSorted ms
sorted_tail m ms h k d z l =
    let n : suc k + 1 ≡ suc (k + 1) = omega arith in
    subst (λ (j : ℕ). is_lt (pair_order (get_or (m ∷ ms) j d) (get_or ms k d)) ≡ false) n (h (suc k) d (omega arith) (omega arith))

pub rising : (ms : List (Addr × Addr)) → AreSorted ms → Once (map first_in ms) → ((m : Addr × Addr) → In ms m → m.0.offset < 1024) → Rising ms
rising [] h o s = tt
rising (m ∷ []) h o s = tt
rising (m ∷ (n ∷ ms)) h o s = (
  (let e : 0 + 1 ≡ 1 = omega arith in
      let now = subst (λ (j : ℕ). is_lt (pair_order (get_or (m ∷ (n ∷ ms)) j m) m) ≡ false) e (h 0 m (omega arith) (omega arith)) in
      first_less m.0 n.0 _ now (λ q. o.0 (contains_from_in (map first_in (n ∷ ms)) m.0 (inl (sym q)))) (s m (inl refl)) (s n (inr (inl refl)))),
  rising (n ∷ ms) (sorted_tail m (n ∷ ms) h) o.1 (λ x i. s x (inr i)),
)

above : (m : Addr × Addr) (ms : List (Addr × Addr)) → Rising (m ∷ ms) → (j : ℕ) (d : Addr × Addr) → j < length ms → address_key m.0 < address_key (get_or ms j d).0
above m [] r j d l = absurd (omega arith)
above m (n ∷ ms) r zero d l = r.0
above m (n ∷ ms) r (suc j) d l = let a = above n ms r.1 j d (omega arith) in let b : address_key m.0 < address_key n.0 = r.0 in omega arith

rising_tail : (m : Addr × Addr) (ms : List (Addr × Addr)) → Rising (m ∷ ms) → Rising ms
rising_tail m [] r = tt
rising_tail m (n ∷ ms) r = r.1

pub in_order : (ms : List (Addr × Addr)) → Rising ms → AreAscending ms
in_order [] r i j d l m = absurd (omega arith)
in_order (x ∷ xs) r i zero d l m = absurd (omega arith)
in_order (x ∷ xs) r zero (suc j) d l m = above x xs r j d (omega arith)
in_order (x ∷ xs) r (suc i) (suc j) d l m = in_order xs (rising_tail x xs r) i j d (omega arith) (omega arith)

pub firsts : (y : Laying) (h : List ChunkValue) (xs : List Addr) → map first_in (relocations y h xs) ≡ xs
firsts y h [] = refl
firsts y h (a ∷ xs) = ap (λ (zs : List Addr). a ∷ zs) (firsts (laid_one y (cell_of h a)) h xs)

pub in_first : (ms : List (Addr × Addr)) (m : Addr × Addr) → In ms m → In (map first_in ms) m.0
in_first [] m i = i
in_first (x ∷ xs) m (inl e) = inl (ap first_in e)
in_first (x ∷ xs) m (inr i) = inr (in_first xs m i)

pub moved_in_order : (y : Laying) (h : List ChunkValue) (xs : List Addr) (ms : List (Addr × Addr)) → IsPermutation (relocations y h xs) ms → AreSorted ms → Once xs → ((a : Addr) → In xs a → a.offset < 1024) → AreAscending ms
moved_in_order y h xs ms p sorted o s =
    let q : IsPermutation xs (map first_in ms) = subst (λ (zs : List Addr). IsPermutation zs (map first_in ms)) (firsts y h xs) (IsPermutation-map first_in (relocations y h xs) ms p) in
    in_order ms (rising ms sorted (once_sorted xs (map first_in ms) q o)
    (λ m i. s m.0 (in_from_contains xs m.0 (Contains-permutation (map first_in ms) xs m.0 (IsPermutation-sym xs (map first_in ms) q) (contains_from_in (map first_in ms) m.0 (in_first ms m i))))))

-- a survivor has an address that a reference can hold
pub survivor_place : (h : List ChunkValue) (from : List (Option Addr)) → HeapIsClosed h → All (IsSoundReference h) from → (a : Addr) → IsSurvivor h from a → a.offset < 1024
survivor_place h from closed sound a w =
    (reached_within (CopyStarts h from) (RefersTo h) (λ (b : Addr). HasObjectAt h b × (b.offset < 1024))
    (λ b q. (q.0, (read_in (IsSoundReference h) from (Some b) (in_from_contains from (Some b) q.1) sound (live_chunk h b q.0)).1))
    (λ m b p q. (q.1, (read_in (IsSoundReference h) (cell_of h m).refs (Some b) (in_from_contains (cell_of h m).refs (Some b) q.2) (closed m p.0) (live_chunk h b q.1)).1))
    a w).1
