-- Walks up a forest that is given by the parent of each place.
use Rattle.std.specs.Prelude.{◌≡◌, ℕ, zero, suc, Option, Some, option_and_then}

-- the ancestor k links above a place
abbrev pub ancestor : (ℕ → Option ℕ) → ℕ → ℕ → Option ℕ
ancestor par zero t = Some t
ancestor par (suc more) t = option_and_then (ancestor par more) (par t)

-- some number of links leads from the place up to a
abbrev pub IsUpFrom : (ℕ → Option ℕ) → ℕ → ℕ → Type 0
IsUpFrom par t a = (k : ℕ) × (ancestor par k t ≡ Some a)
