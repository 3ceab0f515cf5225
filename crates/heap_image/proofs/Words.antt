-- The words of numbers are read as these numbers.
use Rattle.heap_image.proofs.Common.{◌≡◌, ◌<◌, ◌^◌, ℕ, suc, true, false, List, [], ◌∷◌, arith, refl, sym, ℤ, pos, negsuc, nat_lt, ◌==◌, codes, Some, bytes_eq, IsNumeral, digits_value, decimal, signed_decimal, decimal_is_IsNumeral, is_numeral, fits_i64, signed_number, no_minus, numeral_passes, positive, unsigned, IsProper, digits_are_plain, number_below, short_number, long_number, as_option}

-- PROPER WORDS

pub proper_decimal : (n : ℕ) → n < 2 ^ 64 → IsProper (decimal n)
proper_decimal n lt = let h = (decimal_is_IsNumeral n lt).0 in (h.0, digits_are_plain (decimal n) h.1)

pub short_is_long : (n : ℕ) → n < 2 ^ 32 → n < 2 ^ 64
short_is_long n h = omega (arith, h)

-- NUMBERS WITHOUT A SIGN

number_again : (limit n : ℕ) → n < 2 ^ 64 → n < limit → number_below limit (decimal n) ≡ Some n
number_again limit n wide lt =
    let h = decimal_is_IsNumeral n wide in
    sym (as_option limit (decimal n) (Some n) ((h.0, rw h.1 lt), sym h.1))

pub short_again : (n : ℕ) → n < 2 ^ 32 → short_number (decimal n) ≡ Some n
short_again n lt = number_again (2 ^ 32) n (short_is_long n lt) lt

pub long_again : (n : ℕ) → n < 2 ^ 64 → long_number (decimal n) ≡ Some n
long_again n lt = number_again (2 ^ 64) n lt lt

-- NUMBERS WITH A SIGN

pub no_hyphen : (ds : List ℕ) → IsNumeral 10 ds → bytes_eq ds (codes "-") ≡ false
no_hyphen [] h = refl
no_hyphen (c ∷ cs) h = let e : (c == 45) ≡ false = no_minus c h.1.0 in rw e refl

pub decimal_no_hyphen : (n : ℕ) → n < 2 ^ 32 → bytes_eq (decimal n) (codes "-") ≡ false
decimal_no_hyphen n lt = no_hyphen (decimal n) (decimal_is_IsNumeral n (short_is_long n lt)).0

negative : (ds : List ℕ) (n : ℕ) → is_numeral ds ≡ true → digits_value 10 ds ≡ suc n → fits_i64 (negsuc n) ≡ true → signed_number (45 ∷ ds) ≡ Some (negsuc n)
negative ds n f g h = rw (f, g) rw h refl

half : (n : ℕ) → nat_lt n (2 ^ 63) ≡ true → n < 2 ^ 63
half n e = grind (arith, e)

below : (n : ℕ) → n < 2 ^ 63 → n < 2 ^ 64
below n h = omega (arith, h)

next_below : (n : ℕ) → n < 2 ^ 63 → suc n < 2 ^ 64
next_below n h = omega (arith, h)

pub signed_again : (z : ℤ) → fits_i64 z ≡ true → signed_number (signed_decimal z) ≡ Some z
signed_again (pos n) f =
    let h = decimal_is_IsNumeral n (below n (half n f)) in
    positive (decimal n) n (unsigned (decimal n) h.0) (numeral_passes (decimal n) h.0) h.1 f
signed_again (negsuc n) f =
    let h = decimal_is_IsNumeral (suc n) (next_below n (half n f)) in
    negative (decimal (suc n)) n (numeral_passes (decimal (suc n)) h.0) h.1 f

pub proper_signed : (z : ℤ) → fits_i64 z ≡ true → IsProper (signed_decimal z)
proper_signed (pos n) f = proper_decimal n (below n (half n f))
proper_signed (negsuc n) f = let h = proper_decimal (suc n) (next_below n (half n f)) in (omega arith, ((omega arith, omega arith), h.1))
