-- Options of numbers.
use Rattle.std.specs.Prelude.{ℕ, ◌==◌, Bool, false, Option, Some, None}

-- whether the option is this number
abbrev pub option_is : Option ℕ → ℕ → Bool
option_is None n = false
option_is (Some m) n = m == n
