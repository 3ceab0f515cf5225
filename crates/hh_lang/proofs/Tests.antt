-- The tests on texts of numbers decide the relations.
use Rattle.hh_lang.proofs.Common.{◌≡◌, ◌<◌, ◌^◌, ℕ, Bool, true, false, List, [], ◌∷◌, cond, length, arith, refl, ap, ℤ, pos, negsuc, ◌&&◌, ◌==◌, nat_lt, Option, Some, None, SomeIff, FitsSigned, w64, digit_value, IsNumeral, AllDigits, digits_value, starts_with_minus, and_parts, IsNumber, digits_of, decimal_value, are_digits, is_numeral, fits_i64, signed_number}

digits_pass : (ds : List ℕ) → AllDigits 10 ds → are_digits ds ≡ true
digits_pass [] h = refl
digits_pass (c ∷ cs) h = let i = digits_pass cs h.1 in let d : digit_value c < 10 = h.0 in grind (arith, i, d)

below_ten : (d : ℕ) → nat_lt d 10 ≡ true → d < 10
below_ten d e = grind (arith, e)

passed_digits : (ds : List ℕ) → are_digits ds ≡ true → AllDigits 10 ds
passed_digits [] e = tt
passed_digits (c ∷ cs) e = let both = and_parts (nat_lt (digit_value c) 10) (are_digits cs) e in (below_ten (digit_value c) both.0, passed_digits cs both.1)

pub fits_passes : (z : ℤ) → FitsSigned w64 z → fits_i64 z ≡ true
fits_passes (pos n) h = let f : n < 2 ^ 63 = h.sfits in grind (arith, f)
fits_passes (negsuc n) h = let f : n < 2 ^ 63 = h.sfits in grind (arith, f)

passed_fits : (z : ℤ) → fits_i64 z ≡ true → FitsSigned w64 z
passed_fits (pos n) e = record { sfits = let f : n < 2 ^ 63 = grind (arith, e) in f }
passed_fits (negsuc n) e = record { sfits = let f : n < 2 ^ 63 = grind (arith, e) in f }

pub numeral_passes : (ds : List ℕ) → IsNumeral 10 ds → is_numeral ds ≡ true
numeral_passes ds h = let i = digits_pass ds h.1 in let l : 0 < length ds = h.0 in grind (arith, i, l)

pub passed_numeral : (ds : List ℕ) → is_numeral ds ≡ true → IsNumeral 10 ds
passed_numeral ds e = let both = and_parts (nat_lt 0 (length ds)) (are_digits ds) e in (grind (arith, both.0), passed_digits ds both.1)

-- a numeral without a sign is read as its digits
pub no_minus : (c : ℕ) → digit_value c < 10 → (c == 45) ≡ false
no_minus c h = grind arith

pub unsigned : (ds : List ℕ) → IsNumeral 10 ds → starts_with_minus ds ≡ false
unsigned [] h = absurd (let a : 0 < 0 = h.0 in omega arith)
unsigned (c ∷ cs) h = no_minus c h.1.0

pub positive : (ds : List ℕ) (n : ℕ) → starts_with_minus ds ≡ false → is_numeral ds ≡ true → digits_value 10 ds ≡ n → fits_i64 (pos n) ≡ true → signed_number ds ≡ Some (pos n)
positive ds n e f g h = rw (e, f, g) rw h refl

abbrev test : List ℕ → Bool
test bs = is_numeral (digits_of bs) && fits_i64 (decimal_value bs)

passes : (bs : List ℕ) → IsNumber bs × FitsSigned w64 (decimal_value bs) → test bs ≡ true
passes bs h = let a = numeral_passes (digits_of bs) h.0 in let b = fits_passes (decimal_value bs) h.1 in rw (a, b) refl

passed : (bs : List ℕ) → test bs ≡ true → IsNumber bs × FitsSigned w64 (decimal_value bs)
passed bs e = let both = and_parts (is_numeral (digits_of bs)) (fits_i64 (decimal_value bs)) e in (passed_numeral (digits_of bs) both.0, passed_fits (decimal_value bs) both.1)

none_by : (bs : List ℕ) (b : Bool) → test bs ≡ b → (IsNumber bs × FitsSigned w64 (decimal_value bs) → ⊥) → None ≡ cond b (Some (decimal_value bs)) None
none_by bs true e fails = absurd (fails (passed bs e))
none_by bs false e fails = refl

pub as_option : (bs : List ℕ) (r : Option ℤ) → SomeIff r (IsNumber bs × FitsSigned w64 (decimal_value bs)) (decimal_value bs) → r ≡ signed_number bs
as_option bs None h = none_by bs (test bs) refl h
as_option bs (Some z) h = rw (passes bs h.0) (ap Some h.1)
