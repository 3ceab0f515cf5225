-- The graph of a run's strands as that of a log.
use Rattle.std.specs.Prelude.{◌↔◌, ◌==◌, ◌*◌, ◌<◌, ◌≤◌, ℕ, List, [], ◌∷◌, length, if◌then◌else◌}
use Rattle.std.specs.List.{flat_map}
use Rattle.hh_lang.specs.Form.{ProgramText}
use Rattle.hh_model.specs.declared.data.Strand.{Strand}
use Rattle.hh_model.specs.declared.data.Edge.{Edge}
use Rattle.hh_model.specs.declared.data.MachineState.{MachineState}
use Rattle.hh_model.specs.Precedence.{Precedes}
use Rattle.hh_model.specs.Step.{run}
use Rattle.hh_model.specs.Tree.{joins_in}
use Rattle.fork_graph.specs.declared.graph.GraphTurn.{GraphTurn}
use Rattle.fork_graph.specs.declared.graph.GraphTurn.TheVariants.{Spawn, Join}
use Rattle.fork_graph.specs.declared.graph.GraphStrand.{GraphStrand}
use Rattle.fork_graph.specs.Graph as graph

-- the turn of the task t that an edge is, if it is one: an edge to a task's first strand is its spawn, any other one the
-- join of a child
abbrev pub turn_at : ℕ → Edge → List GraphTurn
turn_at t e =
    if e.target.joins == 0
    then (if e.source.task == t then Spawn e.target.task ∷ [] else [])
    else (if e.target.task == t then Join e.source.task ∷ [] else [])

-- the turns of each task are the edges of its forks and joins, in their order: of a fork the spawns of both children, and
-- then, once they have ended, both joins
abbrev pub turns_of : List Edge → graph.TaskTurns
turns_of edges t = flat_map (turn_at t) edges

-- after so many joins of its forks a task has taken four turns for each
abbrev pub in_log : Strand → GraphStrand
in_log u = graph.strand u.task (4 * u.joins)

-- the strand has begun
abbrev pub StrandHasBegun : MachineState → Strand → Type 0
StrandHasBegun m u = (u.task < length m.tasks) × (u.joins ≤ joins_in m.tasks u.task)

-- in every run one strand precedes another exactly where it does so in the graph with these turns
abbrev pub WalksAgree : Type 0
WalksAgree =
    (p : ProgramText) (limit : ℕ) (ts : List ℕ) (u v : Strand)
    → let m = run p limit ts in
    StrandHasBegun m u → StrandHasBegun m v → (Precedes m.edges u v ↔ graph.StrandPrecedes (turns_of m.edges) (in_log u) (in_log v))
