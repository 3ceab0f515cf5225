-- The first line feed of a text is the first byte that a search finds.
use Rattle.log_lines.proofs.Common.{◌≡◌, ◌<◌, ◌≤◌, ◌==◌, ◌∙◌, ℕ, Bool, true, false, List, length, take, get_or, arith, refl, sym, ap, Some, None, get_or-take, length-take, position_or_len, position_at, position_end}
use Rattle.memchr.specs.Find.{IsFirstByte, is_byte}

not_so : (b : Bool) → (b ≡ true → ⊥) → b ≡ false
not_so true h = absurd (h refl)
not_so false h = refl

-- of the whole text
pub found_end : (text : List ℕ) (end : ℕ) → IsFirstByte (is_byte 10) text (Some end) → end ≡ position_or_len (λ c. c == 10) text
found_end text end h = position_at (λ c. c == 10) text end 0 h.0.high (λ k lt. not_so (get_or text k 0 == 10) (h.0.before k (omega arith) lt)) h.1

pub no_end : (text : List ℕ) → IsFirstByte (is_byte 10) text None → length text ≡ position_or_len (λ c. c == 10) text
no_end text h = position_end (λ c. c == 10) text (length text) 0 (omega arith) (λ k lt. not_so (get_or text k 0 == 10) (h k (omega arith) lt))

-- among its first bytes
pub near_end : (text : List ℕ) (n end : ℕ) → n ≤ length text → IsFirstByte (is_byte 10) (take n text) (Some end) → end ≡ position_or_len (λ c. c == 10) text
near_end text n end le h =
    let few : length (take n text) ≡ n = let least = length-take n text in omega (arith, least, le) in
    let high : end < length (take n text) = h.0.high in
    position_at (λ c. c == 10) text end 0 (omega (arith, few, high, le))
    (λ k lt. ap (λ c. c == 10) (sym (get_or-take n text k 0 (omega (arith, few, high, lt)))) ∙ not_so (get_or (take n text) k 0 == 10) (h.0.before k (omega arith) lt))
    (ap (λ c. c == 10) (sym (get_or-take n text end 0 (omega (arith, few, high)))) ∙ h.1)
