-- The links of tasks, by their places.
use Rattle.std.specs.Prelude.{◌≡◌, ℕ, Option, Some, None, List, length, slice_get}
use Rattle.jump_pointers.specs.declared.links.Link.{Link}
use Rattle.jump_pointers.specs.Lists.{AreLinks}
use Rattle.image_check.specs.declared.line.ImageTask.{ImageTask}
use Rattle.image_check.specs.ImageTasks.{ImageTasks}

-- the task with this number is at this place
abbrev pub TaskStandsAt : ImageTasks → ℕ → ℕ → Type 0
TaskStandsAt tasks i t = (e : ℕ × ImageTask) × (slice_get tasks i ≡ Some e) × (e.0 ≡ t)

abbrev pub IsParentAt : ImageTasks → Option ℕ → Option ℕ → Type 0
IsParentAt tasks None None = Unit {0}
IsParentAt tasks None (Some j) = ⊥
IsParentAt tasks (Some p) None = ⊥
IsParentAt tasks (Some p) (Some j) = TaskStandsAt tasks j p

-- the links of these tasks
pub record AreLinksOf (tasks : ImageTasks) (ks : List Link) : Type 0 where
  pub sized : length ks ≡ length tasks
  pub links : AreLinks ks
  pub apart : (i j : ℕ) (e f : ℕ × ImageTask) → slice_get tasks i ≡ Some e → slice_get tasks j ≡ Some f → e.0 ≡ f.0 → i ≡ j
  pub parents : (i : ℕ) (e : ℕ × ImageTask) (k : Link) → slice_get tasks i ≡ Some e → slice_get ks i ≡ Some k → IsParentAt tasks e.1.parent k.parent
