-- Sums that may not fit in 64 bits.
use Rattle.std.specs.Prelude.{◌+◌, ◌^◌, ℕ, Option, Some, None, nat_lt, if◌then◌else◌}

-- the number, if it fits
abbrev pub fitting : ℕ → Option ℕ
fitting n = if nat_lt n (2 ^ 64) then Some n else None

-- the sum, if both numbers and it fit
abbrev pub plus : Option ℕ → Option ℕ → Option ℕ
plus None n = None
plus (Some m) None = None
plus (Some m) (Some n) = fitting (m + n)
