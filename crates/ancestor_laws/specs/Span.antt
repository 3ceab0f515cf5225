-- Walks by their weight, which is the sum of those of their strands.
use Rattle.std.specs.Prelude.{◌≡◌, ◌+◌, ◌≤◌, max, ℕ, zero, suc}
use Rattle.ancestor_laws.specs.Common.{Spawn, Join, GraphStrand, TaskTurns, strand, first_of, last_of, Does, IsGraphEdge, IsNested}

-- some walk of so many edges from the root's first strand to u weighs so much
abbrev pub HasWalk : TaskTurns → (GraphStrand → ℕ) → ℕ → GraphStrand → ℕ → Type 0
HasWalk tasks weight zero u total = (u ≡ first_of 0) × (total ≡ weight u)
HasWalk tasks weight (suc k) u total =
    (m : GraphStrand) × (before : ℕ) × HasWalk tasks weight k m before × IsGraphEdge tasks m u × (total ≡ before + weight u)

-- the greatest weight of a walk from the root's first strand to u
pub record IsReach (tasks : TaskTurns) (weight : GraphStrand → ℕ) (u : GraphStrand) (reach : ℕ) : Type 0 where
  pub walked : (k : ℕ) × HasWalk tasks weight k u reach
  pub greatest : (k total : ℕ) → HasWalk tasks weight k u total → total ≤ reach

-- the greatest weight of any walk from the root's first strand
pub record IsSpan (tasks : TaskTurns) (weight : GraphStrand → ℕ) (span : ℕ) : Type 0 where
  pub walked : (u : GraphStrand) × (k : ℕ) × HasWalk tasks weight k u span
  pub greatest : (u : GraphStrand) (k total : ℕ) → HasWalk tasks weight k u total → total ≤ span

-- a strand's reach is its weight and the greatest reach of what leads to it
pub record AreReaches (tasks : TaskTurns) (weight : GraphStrand → ℕ) : Type 0 where
  pub root : IsReach tasks weight (first_of 0) (weight (first_of 0))
  pub child : (t i c reach : ℕ) → Does tasks t i (Spawn c) → IsReach tasks weight (strand t i) reach
      → IsReach tasks weight (first_of c) (reach + weight (first_of c))
  pub past_spawn : (t i c reach : ℕ) → Does tasks t i (Spawn c) → IsReach tasks weight (strand t i) reach
      → IsReach tasks weight (strand t (i + 1)) (reach + weight (strand t (i + 1)))
  pub past_join : (t i c reach childs : ℕ) → Does tasks t i (Join c) → IsReach tasks weight (strand t i) reach
      → IsReach tasks weight (last_of tasks c) childs → IsReach tasks weight (strand t (i + 1)) (max reach childs + weight (strand t (i + 1)))

-- the span is the reach of the root's last strand
abbrev pub SpanIsLongest : Type 0
SpanIsLongest =
    (tasks : TaskTurns) (weight : GraphStrand → ℕ) → IsNested tasks
    → AreReaches tasks weight × ((span : ℕ) → IsReach tasks weight (last_of tasks 0) span → IsSpan tasks weight span)
