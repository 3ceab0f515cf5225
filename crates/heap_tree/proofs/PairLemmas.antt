-- The entries of pairs of children, by the tasks' numbers.
use Rattle.heap_tree.proofs.Common.{◌≡◌, ◌⊎◌, ◌==◌, ℕ, zero, suc, ◌+◌, ◌-◌, ◌*◌, ◌/◌, ◌%◌, ◌<◌, ◌++◌, true, false, Option, Some, None, List, [], ◌∷◌, length, slice_get, slice_set, option_map, inl, inr, refl, ap, sym, subst, ◌∙◌, arith, IfSome, set-append_left, got_front, TaskState, Linked, Pair, child_entry, entries_of, root_entry, unpaired, with_child}

pub unpaired_length : (ps : List Pair) → length (unpaired ps) ≡ 2 * length ps
unpaired_length [] = refl
unpaired_length (p ∷ ps) = let e = unpaired_length ps in omega (arith, e)

pub unpaired_append : (ps qs : List Pair) → unpaired (ps ++ qs) ≡ unpaired ps ++ unpaired qs
unpaired_append [] qs = refl
unpaired_append (p ∷ ps) qs = ap (λ es. child_entry p true ∷ (child_entry p false ∷ es)) (unpaired_append ps qs)

pub left_got : (ps : List Pair) (k : ℕ) → slice_get (unpaired ps) (2 * k) ≡ option_map (λ p. child_entry p true) (slice_get ps k)
left_got [] k = refl
left_got (p ∷ ps) zero = refl
left_got (p ∷ ps) (suc k) = ap (slice_get (unpaired (p ∷ ps))) (twice k) ∙ left_got ps k
  where
    twice : (k : ℕ) → 2 * suc k ≡ suc (suc (2 * k))
    twice k = omega arith

pub right_got : (ps : List Pair) (k : ℕ) → slice_get (unpaired ps) (2 * k + 1) ≡ option_map (λ p. child_entry p false) (slice_get ps k)
right_got [] k = refl
right_got (p ∷ ps) zero = refl
right_got (p ∷ ps) (suc k) = ap (slice_get (unpaired (p ∷ ps))) (twice k) ∙ right_got ps k
  where
    twice : (k : ℕ) → 2 * suc k + 1 ≡ suc (suc (2 * k + 1))
    twice k = omega arith

pub left_set : (ps : List Pair) (k : ℕ) (p : Pair) (s : TaskState) → slice_get ps k ≡ Some p → unpaired (slice_set ps k (with_child p true s)) ≡ slice_set (unpaired ps) (2 * k) (record (child_entry p true) { state = s })
left_set [] k p s e = refl
left_set (x ∷ ps) zero p s e = head x (same_of e)
  where
    same_of : {a b : Pair} → Some a ≡ Some b → a ≡ b
    same_of q = cc

    head : (x : Pair) → x ≡ p → unpaired (with_child p true s ∷ ps) ≡ slice_set (unpaired (x ∷ ps)) 0 (record (child_entry p true) { state = s })
    head x q = ap (λ (y : Pair). record (child_entry p true) { state = s } ∷ (child_entry y false ∷ unpaired ps)) (sym q)
left_set (x ∷ ps) (suc k) p s e = ap (λ es. child_entry x true ∷ (child_entry x false ∷ es)) (left_set ps k p s e) ∙ ap (λ n. slice_set (unpaired (x ∷ ps)) n (record (child_entry p true) { state = s })) (twice k)
  where
    twice : (k : ℕ) → suc (suc (2 * k)) ≡ 2 * suc k
    twice k = omega arith

pub right_set : (ps : List Pair) (k : ℕ) (p : Pair) (s : TaskState) → slice_get ps k ≡ Some p → unpaired (slice_set ps k (with_child p false s)) ≡ slice_set (unpaired ps) (2 * k + 1) (record (child_entry p false) { state = s })
right_set [] k p s e = refl
right_set (x ∷ ps) zero p s e = head x (same_of e)
  where
    same_of : {a b : Pair} → Some a ≡ Some b → a ≡ b
    same_of q = cc

    head : (x : Pair) → x ≡ p → unpaired (with_child p false s ∷ ps) ≡ slice_set (unpaired (x ∷ ps)) 1 (record (child_entry p false) { state = s })
    head x q = ap (λ (y : Pair). child_entry y true ∷ (record (child_entry p false) { state = s } ∷ unpaired ps)) (sym q)
right_set (x ∷ ps) (suc k) p s e = ap (λ es. child_entry x true ∷ (child_entry x false ∷ es)) (right_set ps k p s e) ∙ ap (λ n. slice_set (unpaired (x ∷ ps)) n (record (child_entry p false) { state = s })) (twice k)
  where
    twice : (k : ℕ) → suc (suc (2 * k + 1)) ≡ 2 * suc k + 1
    twice k = omega arith

parity : (n : ℕ) → (n % 2 ≡ 0) ⊎ (n % 2 ≡ 1)
parity n = parity_by_cases (n % 2) refl
  where
    parity_by_cases : (r : ℕ) → n % 2 ≡ r → (n % 2 ≡ 0) ⊎ (n % 2 ≡ 1)
    parity_by_cases zero e = inl e
    parity_by_cases (suc zero) e = inr e
    parity_by_cases (suc (suc r)) e = absurd (omega (arith, e))

is_even : (n : ℕ) → n % 2 ≡ 0 → (n % 2 == 0) ≡ true
is_even n e = ap (λ r. r == 0) e

is_odd : (n : ℕ) → n % 2 ≡ 1 → (n % 2 == 0) ≡ false
is_odd n e = ap (λ r. r == 0) e

-- ---- BY THE TASKS' NUMBERS

pub entries_length : (s : TaskState) (ps : List Pair) → length (entries_of s ps) ≡ 1 + 2 * length ps
entries_length s ps = let e = unpaired_length ps in omega (arith, e)

got_next : (ps : List Pair) (n : ℕ) → slice_get (unpaired ps) n ≡ option_map (λ p. child_entry p (n % 2 == 0)) (slice_get ps (n / 2))
got_next ps n = elim (parity n) [
  | inl e ↦ ap (slice_get (unpaired ps)) (whole e) ∙ (left_got ps (n / 2) ∙ ap (λ b. option_map (λ p. child_entry p b) (slice_get ps (n / 2))) (sym (is_even n e)))
  | inr e ↦ ap (slice_get (unpaired ps)) (odd e) ∙ (right_got ps (n / 2) ∙ ap (λ b. option_map (λ p. child_entry p b) (slice_get ps (n / 2))) (sym (is_odd n e)))
]
  where
    whole : n % 2 ≡ 0 → n ≡ 2 * (n / 2)
    whole e = omega (arith, e)

    odd : n % 2 ≡ 1 → n ≡ 2 * (n / 2) + 1
    odd e = omega (arith, e)

before : (n : ℕ) → n ≡ suc n - 1
before n = omega arith

-- the entry of a task that isn't the root
pub got_child : (s : TaskState) (ps : List Pair) (t : ℕ) → (t ≡ 0 → ⊥) → slice_get (entries_of s ps) t ≡ option_map (λ p. child_entry p ((t - 1) % 2 == 0)) (slice_get ps ((t - 1) / 2))
got_child s ps zero ne = absurd (ne refl)
got_child s ps (suc n) ne = subst (λ m. slice_get (unpaired ps) n ≡ option_map (λ p. child_entry p (m % 2 == 0)) (slice_get ps (m / 2))) (before n) (got_next ps n)

-- two more children
pub two_more : (s : TaskState) (ps qs : List Pair) (p : Pair) (child : Linked) (es : List Linked) → child_entry p true ≡ child → child_entry p false ≡ child → qs ≡ ps ++ p ∷ [] → entries_of s ps ≡ es → entries_of s qs ≡ es ++ child ∷ (child ∷ [])
two_more s ps qs p child es a b more is =
    ap (entries_of s) more
    ∙ (ap (λ xs. root_entry s ∷ xs) (unpaired_append ps (p ∷ []))
    ∙ (ap (λ x. root_entry s ∷ (unpaired ps ++ x ∷ (child_entry p false ∷ []))) a
    ∙ (ap (λ x. root_entry s ∷ (unpaired ps ++ child ∷ (x ∷ []))) b
    ∙ ap (λ xs. xs ++ child ∷ (child ∷ [])) is)))

next_set : (ps qs : List Pair) (n : ℕ) (x : TaskState) (p : Pair) → slice_get ps (n / 2) ≡ Some p → qs ≡ slice_set ps (n / 2) (with_child p (n % 2 == 0) x) → unpaired qs ≡ slice_set (unpaired ps) n (record (child_entry p (n % 2 == 0)) { state = x })
next_set ps qs n x p at is = elim (parity n) [
  | inl e ↦
      ap unpaired (is ∙ ap (λ b. slice_set ps (n / 2) (with_child p b x)) (is_even n e))
      ∙ (left_set ps (n / 2) p x at
      ∙ (ap (λ m. slice_set (unpaired ps) m (record (child_entry p true) { state = x })) (sym (whole e)) ∙ ap (λ b. slice_set (unpaired ps) n (record (child_entry p b) { state = x })) (sym (is_even n e))))
  | inr e ↦
      ap unpaired (is ∙ ap (λ b. slice_set ps (n / 2) (with_child p b x)) (is_odd n e))
      ∙ (right_set ps (n / 2) p x at
      ∙ (ap (λ m. slice_set (unpaired ps) m (record (child_entry p false) { state = x })) (sym (odd e)) ∙ ap (λ b. slice_set (unpaired ps) n (record (child_entry p b) { state = x })) (sym (is_odd n e))))
]
  where
    whole : n % 2 ≡ 0 → n ≡ 2 * (n / 2)
    whole e = omega (arith, e)

    odd : n % 2 ≡ 1 → n ≡ 2 * (n / 2) + 1
    odd e = omega (arith, e)

-- a task that isn't the root in another state
pub child_set : (s : TaskState) (ps qs : List Pair) (t : ℕ) (x : TaskState) (es : List Linked) → (t ≡ 0 → ⊥) → IfSome (slice_get ps ((t - 1) / 2)) (λ p. qs ≡ slice_set ps ((t - 1) / 2) (with_child p ((t - 1) % 2 == 0) x)) → entries_of s ps ≡ es
    → IfSome (slice_get es t) (λ e. entries_of s qs ≡ slice_set es t (record e { state = x }))
child_set s ps qs zero x es ne put is = absurd (ne refl)
child_set s ps qs (suc n) x es ne put is =
    subst (λ (ys : List Linked). IfSome (slice_get ys (suc n)) (λ e. entries_of s qs ≡ slice_set ys (suc n) (record e { state = x }))) is
    (subst (λ (o : Option Linked). IfSome o (λ e. entries_of s qs ≡ slice_set (entries_of s ps) (suc n) (record e { state = x }))) (sym (got_next ps n)) (child_set_by_cases (slice_get ps (n / 2)) refl (subst (λ m. IfSome (slice_get ps (m / 2)) (λ p. qs ≡ slice_set ps (m / 2) (with_child p (m % 2 == 0) x))) (sym (before n)) put)))
  where
    child_set_by_cases : (o : Option Pair) → slice_get ps (n / 2) ≡ o → IfSome o (λ p. qs ≡ slice_set ps (n / 2) (with_child p (n % 2 == 0) x))
        → IfSome (option_map (λ p. child_entry p (n % 2 == 0)) o) (λ e. entries_of s qs ≡ slice_set (entries_of s ps) (suc n) (record e { state = x }))
    child_set_by_cases None at f = tt
    child_set_by_cases (Some p) at f = ap (λ xs. root_entry s ∷ xs) (next_set ps qs n x p at f)

-- an entry in front of those that were added
pub front_set : (xs ys mid new : List Linked) (t : ℕ) (x : TaskState) → t < length xs → mid ≡ xs ++ ys → IfSome (slice_get mid t) (λ e. new ≡ slice_set mid t (record e { state = x })) → IfSome (slice_get xs t) (λ e. new ≡ slice_set xs t (record e { state = x }) ++ ys)
front_set xs ys mid new t x lt is put =
    front_set_by_cases (slice_get xs t)
    (subst (λ (o : Option Linked). IfSome o (λ e. new ≡ slice_set (xs ++ ys) t (record e { state = x }))) (got_front xs ys t lt)
    (subst (λ (zs : List Linked). IfSome (slice_get zs t) (λ e. new ≡ slice_set zs t (record e { state = x }))) is put))
  where
    front_set_by_cases : (o : Option Linked) → IfSome o (λ e. new ≡ slice_set (xs ++ ys) t (record e { state = x })) → IfSome o (λ e. new ≡ slice_set xs t (record e { state = x }) ++ ys)
    front_set_by_cases None f = tt
    front_set_by_cases (Some e) f = f ∙ set-append_left xs ys t (record e { state = x }) lt
