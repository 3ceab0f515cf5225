-- Which strands happen before which, where a strand's number is its place in a serial order.
use Rattle.std.specs.Prelude.{◌≡◌, ◌<◌, ◌≤◌, ℕ, Bool, true, false}

pub record StrandOrder : Type 0 where
  -- how many strands there are
  pub strands : ℕ
  -- whether a strand happens before another one, or is that one
  pub before : ℕ → ℕ → Bool
  -- the depth of the lowest common ancestor of the tasks of two strands
  pub meeting : ℕ → ℕ → ℕ
  -- whether a strand leaves the task in which it meets another one no later than that one does
  pub leaves_first : ℕ → ℕ → Bool

-- "happens before" is reflexive and transitive, and the numbers of strands extend it
pub record ExtendsPrecedence (o : StrandOrder) : Type 0 where
  pub same : (u : ℕ) → u < o.strands → o.before u u ≡ true
  pub through : (u v w : ℕ) → w < o.strands → o.before u v ≡ true → o.before v w ≡ true → o.before u w ≡ true
  pub serial : (u v : ℕ) → v < o.strands → o.before u v ≡ true → u ≤ v

-- Strands meet as those of a tree do that is walked depth first. Where a and b meet no higher than b meets v, what comes
-- no earlier than v is after both once it is after the one that leaves their meeting later.
pub record MeetsAsInTree (o : StrandOrder) : Type 0 where
  pub first : (a b v w : ℕ) → a ≤ b → b ≤ v → v ≤ w → w < o.strands → o.meeting b v ≤ o.meeting a b
      → o.leaves_first a b ≡ true → o.before b w ≡ true → o.before a w ≡ true
  pub second : (a b v w : ℕ) → a ≤ b → b ≤ v → v ≤ w → w < o.strands → o.meeting b v ≤ o.meeting a b
      → o.leaves_first a b ≡ false → o.before a w ≡ true → o.before b w ≡ true
  -- where a and b meet higher than b and c do, a meets c where it meets b
  pub higher : (a b c : ℕ) → a ≤ b → b ≤ c → c < o.strands → o.meeting a b < o.meeting b c → o.meeting a c ≡ o.meeting a b
