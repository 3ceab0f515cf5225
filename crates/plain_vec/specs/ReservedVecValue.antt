-- A list with reserved capacity.
use Rattle.std.specs.Prelude.{ℕ, List}

-- the items, and how many more can be pushed without allocating
pub record ReservedVecValue (A : Type 0) : Type 0 where
  pub items : List A
  pub room : ℕ
