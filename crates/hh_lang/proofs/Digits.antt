-- Texts of digits are UTF-8.
use Rattle.hh_lang.proofs.Common.{◌≡◌, ◌<◌, ℕ, Bool, true, false, List, [], ◌∷◌, cond, arith, refl, subst, ◌==◌, IsNumber, IsUtf8-append, IsUtf8-encode, IsUtf8-nil, encode_ascii, IsUtf8, digit_value, IsScalar, AllDigits, IsNumeral}

digit_is_ascii : (c : ℕ) → digit_value c < 10 → c < 128
digit_is_ascii c h = grind arith

ascii_is_scalar : (c : ℕ) → c < 128 → IsScalar c
ascii_is_scalar c h = grind arith

one_digit : (c : ℕ) → digit_value c < 10 → IsUtf8 (c ∷ [])
one_digit c h = let a = digit_is_ascii c h in subst IsUtf8 (encode_ascii c a) (IsUtf8-encode c (ascii_is_scalar c a))

pub digits_are_utf8 : (bs : List ℕ) → AllDigits 10 bs → IsUtf8 bs
digits_are_utf8 [] h = IsUtf8-nil
digits_are_utf8 (c ∷ cs) h = IsUtf8-append (c ∷ []) cs (one_digit c h.0) (digits_are_utf8 cs h.1)

one_ascii : (c : ℕ) → c < 128 → IsUtf8 (c ∷ [])
one_ascii c a = subst IsUtf8 (encode_ascii c a) (IsUtf8-encode c (ascii_is_scalar c a))

minus_is_ascii : (c : ℕ) → (c == 45) ≡ true → c < 128
minus_is_ascii c e = grind arith

behind_minus : (c : ℕ) (cs : List ℕ) (b : Bool) → (c == 45) ≡ b → IsNumeral 10 (cond b cs (c ∷ cs)) → IsUtf8 (c ∷ cs)
behind_minus c cs true e h = IsUtf8-append (c ∷ []) cs (one_ascii c (minus_is_ascii c e)) (digits_are_utf8 cs h.1)
behind_minus c cs false e h = digits_are_utf8 (c ∷ cs) h.1

pub numbers_are_utf8 : (bs : List ℕ) → IsNumber bs → IsUtf8 bs
numbers_are_utf8 [] h = IsUtf8-nil
numbers_are_utf8 (c ∷ cs) h = behind_minus c cs (c == 45) refl h
