-- The test on texts of 32-bit numbers decides the relation.
use Rattle.run_trace.proofs.Common.{◌≡◌, ◌<◌, ◌^◌, ℕ, Bool, true, false, List, cond, arith, refl, ap, ◌&&◌, nat_lt, Option, Some, None, SomeIff, IsNumeral, digits_value, and_parts, is_numeral, numeral_passes, passed_numeral, unsigned_number}

abbrev Fits32 : List ℕ → Type 0
Fits32 bs = IsNumeral 10 bs × (digits_value 10 bs < 2 ^ 32)

abbrev test : List ℕ → Bool
test bs = is_numeral bs && nat_lt (digits_value 10 bs) (2 ^ 32)

passes : (bs : List ℕ) → Fits32 bs → test bs ≡ true
passes bs h = let a = numeral_passes bs h.0 in let b : nat_lt (digits_value 10 bs) (2 ^ 32) ≡ true = grind (arith, h.1) in rw (a, b) refl

passed : (bs : List ℕ) → test bs ≡ true → Fits32 bs
passed bs e = let both = and_parts (is_numeral bs) (nat_lt (digits_value 10 bs) (2 ^ 32)) e in (passed_numeral bs both.0, grind (arith, both.1))

none_by : (bs : List ℕ) (b : Bool) → test bs ≡ b → (Fits32 bs → ⊥) → None ≡ cond b (Some (digits_value 10 bs)) None
none_by bs true e fails = absurd (fails (passed bs e))
none_by bs false e fails = refl

pub as_option : (bs : List ℕ) (r : Option ℕ) → SomeIff r (Fits32 bs) (digits_value 10 bs) → r ≡ unsigned_number bs
as_option bs None h = none_by bs (test bs) refl h
as_option bs (Some n) h = rw (passes bs h.0) (ap Some h.1)
