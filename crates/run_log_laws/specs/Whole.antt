-- The graph of a run as that of a fork-join program, which may have been cut off.
use Rattle.std.specs.Prelude.{◌≡◌, ◌↔◌, ◌<◌, ℕ, Some, List, length}
use Rattle.hh_lang.specs.Form.{ProgramText}
use Rattle.hh_model.specs.declared.data.End.TheVariants.{Done}
use Rattle.hh_model.specs.Step.{run}
use Rattle.fork_graph.specs.declared.graph.GraphStrand.{GraphStrand}
use Rattle.fork_graph.specs.Cut.{with_joins}
use Rattle.fork_graph.specs.Faults.{SpawnsBelow}
use Rattle.fork_graph.specs.Graph.{TaskTurns, HasStrand, StrandPrecedes, IsAncestor}
use Rattle.fork_graph.specs.Nested.{IsForkJoin, IsNested}
use Rattle.run_log_laws.specs.Graph.{turns_of}

-- n tasks join none but their own children, the root's spawns lead to each, and joins of all that is unjoined order none
-- of their strands anew
pub record IsCutRun (tasks : TaskTurns) (n : ℕ) : Type 0 where
  pub fork_join : IsForkJoin tasks
  pub below : SpawnsBelow tasks n
  pub reached : (t : ℕ) → t < n → IsAncestor tasks 0 t
  pub same : (u v : GraphStrand) → HasStrand tasks v → (StrandPrecedes tasks u v ↔ StrandPrecedes (with_joins tasks) u v)

-- the graph of each run is such a one; once main has returned, all children are joined
abbrev pub RunsAreForkJoin : Type 0
RunsAreForkJoin =
    (p : ProgramText) (limit : ℕ) (ts : List ℕ)
    → let m = run p limit ts in
    IsCutRun (turns_of m.edges) (length m.tasks) × (m.end ≡ Some Done → IsNested (turns_of m.edges))
