-- The first line of a text, and the others.
use Rattle.text_faults.proofs.Common.{◌≡◌, ◌<◌, ◌≤◌, ◌+◌, ℕ, List, [], ◌∷◌, length, take, drop, arith, ap, sym, ◌∙◌, ◌==◌, position_or_len, take_all, slice_split_first, lines_of, split_last}

pub first_line : (text : List ℕ) (end : ℕ) → end ≡ position_or_len (λ c. c == 10) text → end < length text → lines_of text ≡ take end text ∷ lines_of (drop (end + 1) text)
first_line text end e lt = rw e (slice_split_first (λ c. c == 10) text 0 (let h : position_or_len (λ c. c == 10) text < length text = omega (arith, e, lt) in h))

pub last_line : (text : List ℕ) (end : ℕ) → end ≡ position_or_len (λ c. c == 10) text → end ≡ length text → lines_of text ≡ take end text ∷ []
last_line text end e z = split_last (λ c. c == 10) text (sym e ∙ z) ∙ ap (λ l. l ∷ []) (sym (take_all end text (omega (arith, z))))
