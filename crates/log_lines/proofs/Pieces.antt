-- The first word of a line and the words behind it.
use Rattle.log_lines.proofs.Common.{◌≡◌, ◌<◌, ◌≤◌, ◌+◌, ◌-◌, ◌==◌, ℕ, suc, Bool, true, false, List, [], ◌∷◌, length, take, not, drop, drop-cons, arith, refl, ap, sym, ◌∙◌, cond, ◌⊎◌, inl, inr, cases_lt, take_all, drop_all, length-drop, onto_first, position_or_len, slice_split_first, split_last, is_space, words_of, has_word, operands}

operands_behind : (text : List ℕ) (end : ℕ) → end < length text → operands (drop end text) ≡ words_of (drop (end + 1) text)
operands_behind text end lt = rw (drop-cons text end 0 lt) (ap (λ k. words_of (drop k text)) (let e : suc end ≡ end + 1 = omega arith in e))

first_by : (text : List ℕ) (end : ℕ) → end ≡ position_or_len is_space text → (end < length text) ⊎ (length text ≤ end) → end ≤ length text → words_of text ≡ take end text ∷ operands (drop end text)
first_by text end e (inl lt) le =
    rw (operands_behind text end lt)
    rw e (slice_split_first is_space text 0 (let h : position_or_len is_space text < length text = omega (arith, e, lt) in h))
first_by text end e (inr ge) le =
    let z : end ≡ length text = omega (arith, le, ge) in
    split_last is_space text (sym e ∙ z) ∙ rw (take_all end text ge, drop_all end text ge) refl

-- the first word ends at the first space, or with the line
pub first_word_of : (text : List ℕ) (end : ℕ) → end ≡ position_or_len is_space text → end ≤ length text → words_of text ≡ take end text ∷ operands (drop end text)
first_word_of text end e le = first_by text end e (cases_lt end (length text)) le

some_word_by : (b : Bool) (c : ℕ) (ps : List (List ℕ)) → has_word (cond b ([] ∷ ps) (onto_first c ps)) ≡ true
some_word_by true c ps = refl
some_word_by false c [] = refl
some_word_by false c (p ∷ ps) = refl

some_word : (text : List ℕ) → has_word (words_of text) ≡ true
some_word [] = refl
some_word (c ∷ cs) = some_word_by (is_space c) c (words_of cs)

-- behind a space there is a word
pub left_by : (rest : List ℕ) → not (length rest == 0) ≡ has_word (operands rest)
left_by [] = refl
left_by (c ∷ cs) = let e : (length (c ∷ cs) == 0) ≡ false = grind arith in rw e (sym (some_word cs))

-- the rest as the code cuts it
pub rest_as_cut : (text : List ℕ) (end : ℕ) → take end text ∷ operands (drop end text) ≡ take end text ∷ operands (take (length text - end) (drop end text))
rest_as_cut text end = ap (λ r. take end text ∷ operands r) (sym (take_all (length text - end) (drop end text) (let e = length-drop end text in omega (arith, e))))
