-- Counts as operands, by what `read_u32` answers.
use Rattle.program_reader.proofs.Common.{◌≡◌, ◌<◌, ◌≤◌, ◌^◌, ℕ, Bool, true, false, List, cond, arith, refl, ap, ◌&&◌, nat_le, Option, Some, None, SomeIff, IsNumeral, digits_value, is_numeral, numeral_passes, passed_numeral, field_count}

abbrev pub IsRead : List ℕ → Option ℕ → Type 0
IsRead w r = SomeIff r (IsNumeral 10 w × (digits_value 10 w < 2 ^ 32)) (digits_value 10 w)

pub small : (w : List ℕ) (n : ℕ) → IsRead w (Some n) → n ≤ 16 → Some n ≡ field_count w
small w n h le = let e : n ≡ digits_value 10 w = h.1 in let p = numeral_passes w h.0.0 in let t : nat_le (digits_value 10 w) 16 ≡ true = grind (arith, e, le) in rw (p, t) (ap Some e)

pub large : (w : List ℕ) (n : ℕ) → IsRead w (Some n) → (n ≤ 16 → ⊥) → None ≡ field_count w
large w n h gt = let e : n ≡ digits_value 10 w = h.1 in let p = numeral_passes w h.0.0 in let t : nat_le (digits_value 10 w) 16 ≡ false = grind (arith, e, gt) in rw (p, t) refl

no_numeral : (w : List ℕ) (b : Bool) → is_numeral w ≡ b → (IsNumeral 10 w × (digits_value 10 w < 2 ^ 32) → ⊥) → None ≡ cond (b && nat_le (digits_value 10 w) 16) (Some (digits_value 10 w)) None
no_numeral w false e fails = refl
no_numeral w true e fails = let t : nat_le (digits_value 10 w) 16 ≡ false = too_large (digits_value 10 w) (λ lt. fails (passed_numeral w e, lt)) in rw t refl
  where
    too_large : (n : ℕ) → (n < 2 ^ 32 → ⊥) → nat_le n 16 ≡ false
    too_large n h = grind (arith, h)

pub unread : (w : List ℕ) → IsRead w None → None ≡ field_count w
unread w h = no_numeral w (is_numeral w) refl h
