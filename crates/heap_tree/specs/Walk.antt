-- Walks up a tree that is given by each task's parent.
use Rattle.std.specs.Prelude.{ℕ, zero, suc, Option}
pub use Rattle.jump_pointers.specs.Walk.{ancestor, IsUpFrom}
pub use Rattle.hh_model.specs.Step.{path_by, path_in, through}

-- how many links lead from a task to one without a parent, at most n
abbrev pub depth_by : (ℕ → Option ℕ) → ℕ → ℕ → ℕ
depth_by par zero t = 0
depth_by par (suc more) t = through (par t) 0 (λ p. suc (depth_by par more p))

-- a parent's number is smaller than its child's, so the task's number of links is enough
abbrev pub depth_in : (ℕ → Option ℕ) → ℕ → ℕ
depth_in par t = depth_by par t t
