-- Reachability by walks along edges.
use Rattle.std.specs.Prelude.{ℕ, zero, suc}

-- a walk of n edges from a start to a
abbrev pub IsWalk : {A : Type 0} → (A → Type 0) → (A → A → Type 0) → ℕ → A → Type 0
IsWalk starts leads zero a = starts a
IsWalk {A} starts leads (suc k) a = (m : A) × IsWalk starts leads k m × leads m a

-- some walk leads from a start to a
abbrev pub IsReached : {A : Type 0} → (A → Type 0) → (A → A → Type 0) → A → Type 0
IsReached starts leads a = (k : ℕ) × IsWalk starts leads k a
