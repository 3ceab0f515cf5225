-- Operands: registers and counts.
use Rattle.std.specs.Prelude.{ℕ, ◌-◌, ◌+◌, ◌==◌, ◌&&◌, Option, Some, None, List, [], ◌∷◌, nat_le, if◌then◌else◌}
use Rattle.std.specs.Str.Parse.{digits_value}
use Rattle.hh_lang.specs.Number.{is_numeral}

-- what follows the letter of a register: a number from 0 to 15 without a leading zero
abbrev pub register_number : List ℕ → Option ℕ
register_number (d ∷ []) = if nat_le 48 d && nat_le d 57 then Some (d - 48) else None
register_number (t ∷ d ∷ []) = if (t == 49) && (nat_le 48 d && nat_le d 53) then Some (10 + (d - 48)) else None
register_number _ = None

abbrev pub register_of : ℕ → List ℕ → Option ℕ
register_of letter [] = None
register_of letter (c ∷ cs) = if c == letter then register_number cs else None

-- a number register, i0 to i15
abbrev pub int_register : List ℕ → Option ℕ
int_register w = register_of 105 w

-- a reference register, r0 to r15
abbrev pub ref_register : List ℕ → Option ℕ
ref_register w = register_of 114 w

-- the number of registers of a `pack`: an unsigned decimal number, 0 to 16
abbrev pub field_count : List ℕ → Option ℕ
field_count w = if is_numeral w && nat_le (digits_value 10 w) 16 then Some (digits_value 10 w) else None
