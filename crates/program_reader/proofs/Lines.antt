-- The first line of a text, and the others.
use Rattle.program_reader.proofs.Common.{◌≡◌, ◌<◌, ◌≤◌, ◌+◌, ℕ, Bool, true, false, List, [], ◌∷◌, length, take, drop, arith, refl, ap, sym, ◌∙◌, nat_lt, ◌==◌, position_or_len, take_all, slice_split_first, lines_of, split_last}

pub lines_first : (text : List ℕ) (end : ℕ) → end ≡ position_or_len (λ c. c == 10) text → end < length text → lines_of text ≡ take end text ∷ lines_of (drop (end + 1) text)
lines_first text end e lt = rw e (slice_split_first (λ c. c == 10) text 0 (let h : position_or_len (λ c. c == 10) text < length text = omega (arith, e, lt) in h))

pub lines_last : (text : List ℕ) (end : ℕ) → end ≡ position_or_len (λ c. c == 10) text → end ≡ length text → lines_of text ≡ take end text ∷ []
lines_last text end e z = split_last (λ c. c == 10) text (sym e ∙ z) ∙ ap (λ l. l ∷ []) (sym (take_all end text (omega (arith, z))))

-- the lines of a text whose first line feed stands here
abbrev pub lines_behind : List ℕ → ℕ → Bool → List (List ℕ)
lines_behind text end true = lines_of (drop (end + 1) text)
lines_behind text end false = []

pub lines_cut : (text : List ℕ) (end : ℕ) → end ≡ position_or_len (λ c. c == 10) text → end ≤ length text → lines_of text ≡ take end text ∷ lines_behind text end (nat_lt end (length text))
lines_cut text end e le = lines_cut_by_cases (nat_lt end (length text)) refl
  where
    lines_cut_by_cases : (b : Bool) → nat_lt end (length text) ≡ b → lines_of text ≡ take end text ∷ lines_behind text end b
    lines_cut_by_cases true h = lines_first text end e (let lt : end < length text = grind (arith, h) in lt)
    lines_cut_by_cases false h = lines_last text end e (let z : end ≡ length text = grind (arith, h, le) in z)
