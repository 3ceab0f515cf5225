-- What a leaf collection and a sweep keep.
use Rattle.run_ledger.proofs.Common.{◌≡◌, ◌<◌, ◌≤◌, ◌==◌, ◌&&◌, Bool, true, false, cond, List, [], ◌∷◌, nat_lt, nat_le, ◌⊎◌, inl, inr, refl, sym, subst, ◌∙◌, arith, filter, or_cases, or_left, or_right, and_parts, and_from, ltb-true, lt-ltb, leb-true, le-leb, eqb-true, cases_lt, both_ways, eq-eqb, In, in_from_contains, contains_from_in, Name, holds_name, held_in, small_in, name_le, insert_name, by_birth, small_survivors, collected, swept_heap, AreByBirth, CollectionsKeepJust}
use Rattle.run_ledger.proofs.Held.{laid_flat, collected_down, collected_up, swept_down, swept_up, insert_cases}

-- BIRTH

abbrev pub Born : Name → Name → Type 0
Born a b = (a.task < b.task) ⊎ ((a.task ≡ b.task) × (a.count ≤ b.count))

pub same_name : (a b : Name) → a.task ≡ b.task → a.count ≡ b.count → a ≡ b
same_name a b e k = λ i. record { task = e i; count = k i }

pub born_is : (a b : Name) → name_le a b ≡ true → Born a b
born_is a b h = elim (or_cases (nat_lt a.task b.task) ((a.task == b.task) && nat_le a.count b.count) h) [
  | inl l ↦ inl (ltb-true a.task b.task l)
  | inr e ↦ let q = and_parts (a.task == b.task) (nat_le a.count b.count) e in inr (eqb-true a.task b.task q.0, leb-true a.count b.count q.1)
]

pub born_from : (a b : Name) → Born a b → name_le a b ≡ true
born_from a b (inl l) = or_left (nat_lt a.task b.task) ((a.task == b.task) && nat_le a.count b.count) (lt-ltb a.task b.task l)
born_from a b (inr e) =
    or_right (nat_lt a.task b.task) ((a.task == b.task) && nat_le a.count b.count)
    (and_from (a.task == b.task) (nat_le a.count b.count) (eq-eqb a.task b.task e.0) (le-leb a.count b.count e.1))

born_either : (a b : Name) → Born a b ⊎ Born b a
born_either a b = elim (cases_lt a.task b.task) [
  | inl l ↦ inl (inl l)
  | inr ge ↦ elim (cases_lt b.task a.task) [
    | inl l ↦ inr (inl l)
    | inr le ↦
        let same : a.task ≡ b.task = omega arith in
        elim (cases_lt a.count b.count) [ inl c ↦ inl (inr (same, omega arith)) | inr c ↦ inr (inr (sym same, c)) ]
  ]
]

pub born_on : (a b c : Name) → Born a b → Born b c → Born a c
born_on a b c (inl x) (inl y) = inl (omega arith)
born_on a b c (inl x) (inr y) = inl (let e : b.task ≡ c.task = y.0 in omega arith)
born_on a b c (inr x) (inl y) = inl (let e : a.task ≡ b.task = x.0 in omega arith)
born_on a b c (inr x) (inr y) = inr (x.0 ∙ y.0, let d : a.count ≤ b.count = x.1 in let e : b.count ≤ c.count = y.1 in omega arith)

-- of two names of one task, one was born no later than the other
pub born_both : (a b : Name) → Born a b → Born b a → a ≡ b
born_both a b (inl x) (inl y) = absurd (omega (arith, x, y))
born_both a b (inl x) (inr y) = absurd (let e : b.task ≡ a.task = y.0 in omega (arith, x, e))
born_both a b (inr x) (inl y) = absurd (let e : a.task ≡ b.task = x.0 in omega (arith, y, e))
born_both a b (inr x) (inr y) = same_name a b x.0 (let d : a.count ≤ b.count = x.1 in let e : b.count ≤ a.count = y.1 in omega (arith, d, e))

turned : (a b : Name) → name_le a b ≡ false → Born b a
turned a b h = elim (born_either a b) [ inl x ↦ absurd (both_ways (name_le a b) h (born_from a b x)) | inr y ↦ y ]

abbrev Ordered : List Name → Type 0
Ordered [] = Unit {0}
Ordered (n ∷ ns) = ((k : Name) → In ns k → Born n k) × Ordered ns

insert_by : (n m : Name) (ms : List Name) → Ordered (m ∷ ms) → Ordered (insert_name n ms) → (b : Bool) → name_le n m ≡ b → Ordered (cond b (n ∷ m ∷ ms) (m ∷ insert_name n ms))
insert_by n m ms O rest true e =
    let first = born_is n m e in
    ((λ k i. elim i [ inl q ↦ subst (λ x. Born n x) q first | inr j ↦ born_on n m k first (O.0 k j) ]), O)
insert_by n m ms O rest false e =
    ((λ k i. elim (insert_cases n ms k i) [ inl q ↦ subst (λ x. Born m x) q (turned n m e) | inr j ↦ O.0 k j ]), rest)

insert_ordered : (n : Name) (ms : List Name) → Ordered ms → Ordered (insert_name n ms)
insert_ordered n [] O = ((λ k i. absurd i), tt)
insert_ordered n (m ∷ ms) O = insert_by n m ms O (insert_ordered n ms O.1) (name_le n m) refl

birth_ordered : (ns : List Name) → Ordered (by_birth ns)
birth_ordered [] = tt
birth_ordered (n ∷ ns) = insert_ordered n (by_birth ns) (birth_ordered ns)

by_birth_from : (ns : List Name) → Ordered ns → AreByBirth ns
by_birth_from [] O = tt
by_birth_from (n ∷ ns) O = ((λ k c. born_from n k (O.0 k (in_from_contains ns k c))), by_birth_from ns O.1)

pub collections_keep_just : CollectionsKeepJust
collections_keep_just m h = record {
  survivors = λ n. (
    λ c. let q = collected_down m h n (in_from_contains (held_in (collected m h)) n c) in (contains_from_in (held_in h) n q.0, contains_from_in h.survivors n q.1),
    λ b. contains_from_in (held_in (collected m h)) n (collected_up m h n (in_from_contains (held_in h) n b.0) (in_from_contains h.survivors n b.1)),
  );
  order = subst AreByBirth (sym (laid_flat m (small_survivors h))) (by_birth_from (small_survivors h) (birth_ordered (filter (holds_name h.survivors) (small_in h))));
  laid = laid_flat m (small_survivors h);
  snapshot = λ n. (
    λ c. let q = swept_down h n (in_from_contains (held_in (swept_heap h)) n c) in (contains_from_in (held_in h) n q.0, contains_from_in h.snapshot n q.1),
    λ b. contains_from_in (held_in (swept_heap h)) n (swept_up h n (in_from_contains (held_in h) n b.0) (in_from_contains h.snapshot n b.1)),
  );
}
