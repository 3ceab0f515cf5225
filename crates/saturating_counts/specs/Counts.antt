-- Saturating counts of 64 bits.
use Rattle.std.specs.Prelude.{ℕ, ◌+◌, ◌-◌, ◌^◌, min}

abbrev pub last_count : ℕ
last_count = 2 ^ 64 - 1

abbrev pub raised_by : ℕ → ℕ → ℕ
raised_by n k = min (n + k) last_count
