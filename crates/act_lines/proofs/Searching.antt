-- A search goes on, line by line.
use Rattle.act_lines.proofs.Common.{◌≡◌, ◌<◌, ◌≤◌, ◌+◌, ◌++◌, ◌∷◌, ◌∙◌, ℕ, suc, Option, Some, None, List, [], map, length, slice_get, get_or, inl, inr, refl, sym, ap, arith, IsStrictlyIncreasing, cases_lt, length-append, AllPairs-from_increasing, same_Some, get_or_from_slice_get, got_within, got_past, got_front, got_last, got_none, ActLine, Search, HasFound, IsSearch}

length_more : {A : Type 0} (xs : List A) (x : A) → length (xs ++ x ∷ []) ≡ length xs + 1
length_more xs x = length-append xs (x ∷ [])

pub past_end : {A : Type 0} (xs : List A) (k : ℕ) → slice_get xs k ≡ None → length xs ≤ k
past_end xs k e =
    elim (cases_lt k (length xs)) [
      | inl lt ↦ absurd (got_none xs k lt e)
      | inr ge ↦ ge
    ]

-- later numbers are greater
greater : (numbers : List ℕ) → IsStrictlyIncreasing numbers → (i j m n : ℕ) → i < j → slice_get numbers i ≡ Some m → slice_get numbers j ≡ Some n → m < n
greater numbers up i j m n lt at later =
    let l = AllPairs-from_increasing numbers up i j 0 lt (got_within numbers j n later) in
    let a : get_or numbers i 0 ≡ m = get_or_from_slice_get numbers i m 0 at in
    let b : get_or numbers j 0 ≡ n = get_or_from_slice_get numbers j n 0 later in
    omega (arith, l, a, b)

-- the count is no greater than the next number
pub count_below : (numbers : List ℕ) (s : Search) → IsSearch numbers s → (number : ℕ) → slice_get numbers (length s.found) ≡ Some number → s.count ≤ number
count_below numbers s (seen, h) number next =
    let count = h.count (got_within numbers (length s.found) number next) in
    let le = h.later (length s.found) number (omega arith) next in
    omega (arith, count, le)

-- what comes once all were found changes nothing
pub all_before : (numbers : List ℕ) (seen more : List ActLine) (s : Search) → HasFound numbers seen s → length s.found ≡ length numbers → HasFound numbers (seen ++ more) s
all_before numbers seen more s h past = record {
  few = h.few;
  are = λ k n lt at.
      let r = h.are k n lt at in
      let l = length-append seen more in
      (omega (arith, r.0, l), r.1 ∙ ap (λ (o : Option ActLine). Some o) (sym (got_front seen more n r.0)));
  later = λ k n le at. absurd (let l = got_within numbers k n at in omega (arith, l, le, past));
  count = λ lt. absurd (omega (arith, lt, past));
}

module _ (numbers : List ℕ) (seen : List ActLine) (line : ActLine) (s : Search) (h : HasFound numbers seen s) where
  old_found : (k n : ℕ) → k < length s.found → slice_get numbers k ≡ Some n → (n < length (seen ++ line ∷ [])) × (slice_get s.found k ≡ Some (slice_get (seen ++ line ∷ []) n))
  old_found k n lt at =
      let r = h.are k n lt at in
      let l = length_more seen line in
      (omega (arith, r.0, l), r.1 ∙ ap (λ (o : Option ActLine). Some o) (sym (got_front seen (line ∷ []) n r.0)))

  -- all were found before
  pub none_left : length numbers ≤ length s.found → HasFound numbers (seen ++ line ∷ []) s
  none_left past = record {
    few = h.few;
    are = old_found;
    later = λ k n le at. absurd (let l = got_within numbers k n at in omega (arith, l, le, past));
    count = λ lt. absurd (omega (arith, lt, past));
  }

  module _ (up : IsStrictlyIncreasing numbers) (number : ℕ) (next : slice_get numbers (length s.found) ≡ Some number) where
    -- the next one is looked for
    pub found_one : number ≡ s.count → HasFound numbers (seen ++ line ∷ []) (record { found = s.found ++ Some line ∷ []; count = s.count + 1 })
    found_one is =
        let there = got_within numbers (length s.found) number next in
        let count = h.count there in
        let l = length_more seen line in
        let f = length_more s.found (Some line) in
        record {
          few = omega (arith, there, f);
          are = λ k n lt at. elim (cases_lt k (length s.found)) [
            | inl below ↦ let r = old_found k n below at in (r.0, got_front s.found (Some line ∷ []) k below ∙ r.1)
            | inr above ↦
                let e : length s.found ≡ k = omega (arith, lt, f, above) in
                let same : number ≡ n = same_Some number n (sym next ∙ (ap (slice_get numbers) e ∙ at)) in
                let place : length seen ≡ n = omega (arith, is, count, same) in
                (omega (arith, place, l), ap (slice_get (s.found ++ Some line ∷ [])) (sym e) ∙ (got_last s.found (Some line) ∙ ap (λ (o : Option ActLine). Some o) (sym (got_last seen line) ∙ ap (slice_get (seen ++ line ∷ [])) place)))
          ];
          later = λ k n le at. let g = greater numbers up (length s.found) k number n (omega (arith, le, f)) next at in omega (arith, g, l, is, count);
          count = λ lt. omega (arith, l, count);
        }

    -- another one is
    pub passed_one : (number ≡ s.count → ⊥) → HasFound numbers (seen ++ line ∷ []) (record { found = s.found; count = s.count + 1 })
    passed_one never =
        let there = got_within numbers (length s.found) number next in
        let count = h.count there in
        let l = length_more seen line in
        let le = h.later (length s.found) number (omega arith) next in
        let lt : length seen < number = elim (cases_lt (length seen) number) [
          | inl below ↦ below
          | inr above ↦ absurd (never (omega (arith, le, above, count)))
        ] in
        record {
          few = h.few;
          are = old_found;
          later = λ k n low at. elim (cases_lt (length s.found) k) [
            | inl below ↦ let g = greater numbers up (length s.found) k number n below next at in omega (arith, g, l, lt)
            | inr above ↦
                let e : length s.found ≡ k = omega (arith, low, above) in
                let same : number ≡ n = same_Some number n (sym next ∙ (ap (slice_get numbers) e ∙ at)) in
                omega (arith, same, l, lt)
          ];
          count = λ more. omega (arith, l, count);
        }

-- what is left of the numbers isn't there
pub record HasEnded (numbers : List ℕ) (seen : List ActLine) (found : List (Option ActLine)) : Type 0 where
  pub few : length found ≤ length numbers
  pub are : (k n : ℕ) → k < length found → slice_get numbers k ≡ Some n → slice_get found k ≡ Some (slice_get seen n)
  pub later : (k n : ℕ) → length found ≤ k → slice_get numbers k ≡ Some n → length seen ≤ n

pub ended : (numbers : List ℕ) (seen : List ActLine) (s : Search) → HasFound numbers seen s → HasEnded numbers seen s.found
ended numbers seen s h = record { few = h.few; are = λ k n lt at. (h.are k n lt at).1; later = h.later }

-- one that isn't there
pub none_more : (numbers : List ℕ) (seen : List ActLine) (found : List (Option ActLine)) → length found < length numbers → HasEnded numbers seen found → HasEnded numbers seen (found ++ None ∷ [])
none_more numbers seen found lt h =
    let f = length_more found None in
    record {
      few = omega (arith, lt, f);
      are = λ k n below at. elim (cases_lt k (length found)) [
        | inl l ↦ got_front found (None ∷ []) k l ∙ h.are k n l at
        | inr g ↦
            let e : length found ≡ k = omega (arith, below, f, g) in
            ap (slice_get (found ++ None ∷ [])) (sym e)
            ∙ (got_last found None ∙ ap (λ (o : Option ActLine). Some o) (sym (got_past seen n (h.later k n (omega (arith, e)) at))))
      ];
      later = λ k n le at. h.later k n (omega (arith, le, f)) at;
    }

-- all were looked up
all_looked_up : (f : ℕ → Option ActLine) (numbers : List ℕ) (found : List (Option ActLine)) → length found ≡ length numbers
    → ((k n : ℕ) → slice_get numbers k ≡ Some n → slice_get found k ≡ Some (f n)) → found ≡ map f numbers
all_looked_up f [] [] e are = refl
all_looked_up f [] (x ∷ xs) e are = absurd (omega (arith, e))
all_looked_up f (n ∷ ns) [] e are = absurd (omega (arith, e))
all_looked_up f (n ∷ ns) (x ∷ xs) e are =
    ap (λ y. y ∷ xs) (same_Some x (f n) (are 0 n refl)) ∙ ap (λ ys. f n ∷ ys) (all_looked_up f ns xs (omega (arith, e)) (λ k m at. are (suc k) m at))

pub all_found : (numbers : List ℕ) (seen : List ActLine) (found : List (Option ActLine)) → length numbers ≤ length found → HasEnded numbers seen found → found ≡ map (slice_get seen) numbers
all_found numbers seen found past h =
    all_looked_up (slice_get seen) numbers found (omega (arith, past, h.few)) (λ k n at. h.are k n (let l = got_within numbers k n at in omega (arith, l, past)) at)
