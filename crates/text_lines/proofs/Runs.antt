-- Steps along the runs and the words of a line.
use Rattle.text_lines.proofs.Common.{◌≡◌, ◌<◌, ◌≤◌, ◌+◌, ◌-◌, ◌==◌, ℕ, zero, suc, Bool, true, false, List, [], ◌∷◌, length, take, drop, filter, get_or, arith, refl, ap, sym, ◌∙◌, cond, ◌⊎◌, inl, inr, cases_lt, take_all, drop_all, length-drop, slice_split, position_or_len, All, slice_split_first, slice_split_none, fails_before_first, position_or_len_is, is_blank, is_word, runs_of, lines_of}

pub position_at : {X : Type 0} (p : X → Bool) (xs : List X) (i : ℕ) (d : X) → i < length xs → ((k : ℕ) → k < i → p (get_or xs k d) ≡ false) → p (get_or xs i d) ≡ true → i ≡ position_or_len p xs
position_at p xs i d lt before here = sym (position_or_len_is p xs i d (omega (arith, lt)) before (λ _. here))

pub position_end : {X : Type 0} (p : X → Bool) (xs : List X) (i : ℕ) (d : X) → length xs ≤ i → ((k : ℕ) → k < i → p (get_or xs k d) ≡ false) → length xs ≡ position_or_len p xs
position_end p xs i d le before = sym (position_or_len_is p xs (length xs) d (omega arith) (λ k lt. before k (omega (arith, lt, le))) (λ lt. absurd (let h : length xs < length xs = lt in omega arith)))

none_pass : {X : Type 0} (p : X → Bool) (xs : List X) → position_or_len p xs ≡ length xs → All (λ x. p x ≡ false) xs
none_pass p xs e = λ k d lt. fails_before_first p xs k d (let h : k < length xs = lt in omega (arith, e, h))

-- the last piece
pub split_last : {X : Type 0} (p : X → Bool) (xs : List X) → position_or_len p xs ≡ length xs → slice_split p xs ≡ xs ∷ []
split_last p xs e = slice_split_none p xs (none_pass p xs e)

-- a nonempty piece is a word
abbrev pub kept_word : List ℕ → List (List ℕ) → List (List ℕ)
kept_word w ws = cond (is_word w) (w ∷ ws) ws

cut_short : (line : List ℕ) → position_or_len is_blank line < length line → runs_of line ≡ kept_word (take (position_or_len is_blank line) line) (runs_of (drop (position_or_len is_blank line + 1) line))
cut_short line lt = ap (filter is_word) (slice_split_first is_blank line 0 lt)

whole : (line : List ℕ) → position_or_len is_blank line ≡ length line → runs_of line ≡ kept_word (take (position_or_len is_blank line) line) (runs_of (drop (position_or_len is_blank line + 1) line))
whole line e = ap (filter is_word) (split_last is_blank line e) ∙ rw (e, take_all (length line) line (omega arith), drop_all (length line + 1) line (omega arith)) refl

by_end : (line : List ℕ) → position_or_len is_blank line ≤ length line → (position_or_len is_blank line < length line) ⊎ (length line ≤ position_or_len is_blank line) → runs_of line ≡ kept_word (take (position_or_len is_blank line) line) (runs_of (drop (position_or_len is_blank line + 1) line))
by_end line le (inl lt) = cut_short line lt
by_end line le (inr ge) = whole line (omega (arith, le, ge))

-- the runs of a line, from its first run
pub runs_step : (line : List ℕ) (end : ℕ) → end ≡ position_or_len is_blank line → end ≤ length line → runs_of line ≡ kept_word (take end line) (runs_of (drop (end + 1) line))
runs_step line end e le = rw e (by_end line (omega (arith, e, le)) (cases_lt (position_or_len is_blank line) (length line)))

-- a nonempty run is the first word
pub run_first : (line : List ℕ) (end : ℕ) → end ≡ position_or_len is_blank line → end ≤ length line → 0 < end → runs_of line ≡ take end line ∷ runs_of (drop (end + 1) line)
run_first line zero e le lt = absurd (omega (arith, lt))
run_first [] (suc n) e le lt = absurd (omega (arith, le))
run_first (c ∷ cs) (suc n) e le lt = runs_step (c ∷ cs) (suc n) e le

-- the first line of several
pub lines_first : (text : List ℕ) (end : ℕ) → end ≡ position_or_len (λ c. c == 10) text → end < length text
    → lines_of text ≡ take end text ∷ lines_of (take (length text - (end + 1)) (drop (end + 1) text))
lines_first text end e lt =
    rw (take_all (length text - (end + 1)) (drop (end + 1) text) (grind (arith, length-drop)))
    rw e (slice_split_first (λ c. c == 10) text 0 (let h : position_or_len (λ c. c == 10) text < length text = omega (arith, e, lt) in h))

-- the only line
pub lines_last : (text : List ℕ) (end : ℕ) → end ≡ position_or_len (λ c. c == 10) text → end ≡ length text → lines_of text ≡ text ∷ []
lines_last text end e z = split_last (λ c. c == 10) text (sym e ∙ z)
