-- How numbers are written: an optional minus and decimal digits.
use Rattle.std.specs.Prelude.{ℕ, ◌^◌, ℤ, pos, negsuc, neg_ℤ, Bool, true, ◌&&◌, List, [], ◌∷◌, drop, cond, length, nat_lt, Option, Some, None, if◌then◌else◌}
use Rattle.std.specs.Char.{digit_value}
use Rattle.std.specs.Str.Parse.{IsNumeral, digits_value, starts_with_minus}

-- the digits of a number, after its minus
abbrev pub digits_of : List ℕ → List ℕ
digits_of bs = cond (starts_with_minus bs) (drop 1 bs) bs

-- an optional minus, and then at least one digit
abbrev pub IsNumber : List ℕ → Type 0
IsNumber bs = IsNumeral 10 (digits_of bs)

abbrev pub decimal_value : List ℕ → ℤ
decimal_value bs = cond (starts_with_minus bs) (neg_ℤ (pos (digits_value 10 (digits_of bs)))) (pos (digits_value 10 (digits_of bs)))

-- THE SAME AS TESTS

abbrev pub are_digits : List ℕ → Bool
are_digits [] = true
are_digits (c ∷ cs) = nat_lt (digit_value c) 10 && are_digits cs

abbrev pub is_numeral : List ℕ → Bool
is_numeral ds = nat_lt 0 (length ds) && are_digits ds

-- from -2^63 to 2^63 - 1
abbrev pub fits_i64 : ℤ → Bool
fits_i64 (pos n) = nat_lt n (2 ^ 63)
fits_i64 (negsuc n) = nat_lt n (2 ^ 63)

-- the number that a text denotes, if it is a number that fits
abbrev pub signed_number : List ℕ → Option ℤ
signed_number bs = if is_numeral (digits_of bs) && fits_i64 (decimal_value bs) then Some (decimal_value bs) else None

-- a number in front of others, if all of them exist
abbrev pub onto_number : Option ℕ → Option (List ℕ) → Option (List ℕ)
onto_number (Some n) (Some ns) = Some (n ∷ ns)
onto_number _ _ = None
