-- Spawns that are in order.
use Rattle.std.specs.Prelude.{◌≡◌, ◌<◌, ℕ, List, length}
use Rattle.log_tasks.specs.Common.{GraphTurn, Spawn, tasks_in, Does}

-- each spawn is of a task that is there and isn't the root, and no two are of one task
pub record SpawnsWell (rows : List (List GraphTurn)) : Type 0 where
  pub there : (t i c : ℕ) → Does (tasks_in rows) t i (Spawn c) → (0 < c) × (c < length rows)
  pub once : (t i s j c : ℕ) → Does (tasks_in rows) t i (Spawn c) → Does (tasks_in rows) s j (Spawn c) → (t ≡ s) × (i ≡ j)
