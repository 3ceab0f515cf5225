-- The reaches of strands, strand after strand in the serial order.
use Rattle.std.specs.Prelude.{◌≡◌, ◌==◌, ◌+◌, ◌-◌, ℕ, max, Option, Some, None, List, [], ◌∷◌, ◌++◌, length, get_or, slice_get, slice_set, if◌then◌else◌}
use Rattle.fork_graph.specs.declared.graph.GraphTurn.{GraphTurn}
use Rattle.fork_graph.specs.declared.graph.GraphTurn.TheVariants.{Spawn, Join}
use Rattle.fork_graph.specs.declared.graph.GraphStrand.{GraphStrand}
use Rattle.fork_graph.specs.Graph.{TaskTurns}
use Rattle.ancestor_laws.specs.Span.{IsReach, IsSpan}
use Rattle.run_span.specs.declared.reach.Reaches.{Reaches}

-- the last of some reaches; 0 where there is none
abbrev pub last_reach : List ℕ → ℕ
last_reach all = get_or all (length all - 1) 0

abbrev pub latest_of : Reaches → ℕ → ℕ
latest_of reaches t = get_or reaches.latest t 0

abbrev pub turn_before : TaskTurns → GraphStrand → Option GraphTurn
turn_before tasks u = slice_get (tasks u.task) (u.index - 1)

-- past a join also what the child's last strand reaches counts
abbrev pub with_child : Reaches → ℕ → Option GraphTurn → ℕ
with_child reaches own None = own
with_child reaches own (Some (Spawn c)) = own
with_child reaches own (Some (Join c)) = max own (latest_of reaches c)

-- the greatest reach of what leads to the next strand
abbrev pub reach_before : TaskTurns → Reaches → GraphStrand → ℕ
reach_before tasks reaches u = if u.index == 0 then last_reach reaches.all else with_child reaches (latest_of reaches u.task) (turn_before tasks u)

abbrev pub entered : Reaches → GraphStrand → ℕ → Reaches
entered reaches u reach = record { all = reaches.all ++ reach ∷ []; latest = slice_set reaches.latest u.task reach }

-- weights of strands that stand in the order with these weights
abbrev pub AreWeights : List GraphStrand → List ℕ → (GraphStrand → ℕ) → Type 0
AreWeights order weights weight = (i : ℕ) (u : GraphStrand) → slice_get order i ≡ Some u → slice_get weights i ≡ Some (weight u)

-- a list of the reach of each strand of the order
pub record AreReachesOf (tasks : TaskTurns) (order : List GraphStrand) (weights reaches : List ℕ) : Type 0 where
  pub size : length reaches ≡ length order
  pub each : (weight : GraphStrand → ℕ) → AreWeights order weights weight
      → (i reach : ℕ) (u : GraphStrand) → slice_get order i ≡ Some u → slice_get reaches i ≡ Some reach → IsReach tasks weight u reach

-- the greatest weight of a walk, where strands have these weights
abbrev pub IsSpanOf : TaskTurns → List GraphStrand → List ℕ → ℕ → Type 0
IsSpanOf tasks order weights span = (weight : GraphStrand → ℕ) → AreWeights order weights weight → IsSpan tasks weight span
