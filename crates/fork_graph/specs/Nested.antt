-- Tasks that join their own children.
use Rattle.std.specs.Prelude.{◌≡◌, ◌<◌, ℕ}
use Rattle.fork_graph.specs.declared.graph.GraphTurn.TheVariants.{Spawn, Join}
use Rattle.fork_graph.specs.Graph.{TaskTurns, Does}

-- each task is spawned at most once, the root never, and joined at most once, by its parent
pub record IsForkJoin (tasks : TaskTurns) : Type 0 where
  pub root : (t i : ℕ) → Does tasks t i (Spawn 0) → ⊥
  pub spawned_once : (c t i t' i' : ℕ) → Does tasks t i (Spawn c) → Does tasks t' i' (Spawn c) → (t ≡ t') × (i ≡ i')
  pub joins_own : (c t j : ℕ) → Does tasks t j (Join c) → (i : ℕ) × (i < j) × Does tasks t i (Spawn c)
  pub joined_once : (c t j j' : ℕ) → Does tasks t j (Join c) → Does tasks t j' (Join c) → j ≡ j'

-- and each child is joined
pub record IsNested (tasks : TaskTurns) : Type 0 where
  pub fork_join : IsForkJoin tasks
  pub all_joined : (c t i : ℕ) → Does tasks t i (Spawn c) → (j : ℕ) × Does tasks t j (Join c)
