-- How tasks stand in the serial order, and what the places of strands tell of precedence.
use Rattle.std.specs.Prelude.{◌≡◌, ◌↔◌, ◌+◌, ◌<◌, ◌≤◌, ℕ, Some, List, slice_get}
use Rattle.ancestor_laws.specs.Common.{Spawn, Join, GraphStrand, TaskTurns, strand, first_of, last_of, Does, StrandPrecedes, IsAncestor, IsNested}
use Rattle.ancestor_laws.specs.Serial.{serial_order, AreLevels}

-- in an order of strands each task stands together with all below it
pub record AreBlocks (tasks : TaskTurns) (order : List GraphStrand) : Type 0 where
  -- from its first strand to its last stand the strands of the task and of all below it, and no others
  pub block : (c first last i : ℕ) (v : GraphStrand) → slice_get order first ≡ Some (first_of c) → slice_get order last ≡ Some (last_of tasks c)
      → slice_get order i ≡ Some v → (IsAncestor tasks c v.task ↔ ((first ≤ i) × (i ≤ last)))
  -- a task begins right after the strand that spawns it
  pub spawner : (t i c k : ℕ) → Does tasks t i (Spawn c) → slice_get order k ≡ Some (strand t i) → slice_get order (k + 1) ≡ Some (first_of c)
  -- and it has ended, with all below it, before its parent's next strand
  pub child : (t i c k j : ℕ) (v : GraphStrand) → Does tasks t i (Spawn c) → IsAncestor tasks c v.task
      → slice_get order k ≡ Some v → slice_get order j ≡ Some (strand t (i + 1)) → k < j

-- the places of strands in an order tell what precedes what
pub record TellsPrecedence (tasks : TaskTurns) (order : List GraphStrand) : Type 0 where
  -- a strand precedes what its task and those below it do from there on
  pub own : (q i k j : ℕ) (v : GraphStrand) → IsAncestor tasks q v.task → slice_get order k ≡ Some (strand q i) → slice_get order j ≡ Some v
      → (StrandPrecedes tasks (strand q i) v ↔ (k ≤ j))
  -- where only the parent of u's task, or of a task above that, is an ancestor of v's, u precedes v if the parent has joined by then
  pub left : (q i c k j : ℕ) (u v : GraphStrand) → IsAncestor tasks c u.task → Does tasks q i (Join c) → IsAncestor tasks q v.task
      → (IsAncestor tasks c v.task → ⊥) → (n : ℕ) → slice_get order n ≡ Some u → slice_get order k ≡ Some (strand q (i + 1)) → slice_get order j ≡ Some v
      → (StrandPrecedes tasks u v ↔ (k ≤ j))

abbrev pub SerialOrderTells : Type 0
SerialOrderTells =
    (tasks : TaskTurns) (levels : ℕ) → IsNested tasks → AreLevels tasks levels
    → AreBlocks tasks (serial_order tasks levels) × TellsPrecedence tasks (serial_order tasks levels)
