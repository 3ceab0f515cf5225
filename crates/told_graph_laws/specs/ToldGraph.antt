-- The graph that the events of a log tell.
use Rattle.std.specs.Prelude.{◌≡◌, ◌↔◌, ◌<◌, ◌++◌, ℕ, IsTrue, Some, List, [], ◌∷◌, length}
use Rattle.plain_vec.specs.Members.{In}
use Rattle.fork_graph.specs.Cut.{with_joins}
use Rattle.fork_graph.specs.Graph.{TaskTurns, tasks_in, Does}
use Rattle.fork_graph.specs.declared.fault.Extent.{Extent}
use Rattle.fork_graph.specs.declared.fault.Extent.TheVariants.{Whole, Cut}
use Rattle.fork_graph.specs.declared.graph.GraphTurn.TheVariants.{Join}
use Rattle.log_form.specs.Events.{Event}
use Rattle.log_tasks.specs.Log.{IsLog}
use Rattle.log_tasks.specs.Numbers.{is_task, told_number}
use Rattle.log_tasks.specs.Rows.{known_of}
use Rattle.log_tasks.specs.declared.tasks.LogTasks.{LogTasks}
use Rattle.run_turn_laws.specs.Turns.{turns_told, FollowTurns}
use Rattle.run_turn_laws.specs.below.log_lines as acts

-- the task hasn't ended
abbrev pub IsUnended : List Event → ℕ → Type 0
IsUnended events t = (d : Event) → In events d → d.strand.task ≡ t → d.act ≡ acts.Finish → ⊥

-- after what happened before, no task does something behind its end
abbrev pub EndsAreLast : List Event → List Event → Type 0
EndsAreLast before [] = Unit {0}
EndsAreLast before (e ∷ rest) = IsUnended before e.strand.task × EndsAreLast (before ++ e ∷ []) rest

-- n tasks, numbered from 0 on, tell what they do: each on the strand to which its turns so far lead, until its end
pub record AreToldInOrder (n : ℕ) (events : List Event) : Type 0 where
  pub tasks : (t : ℕ) → IsTrue (is_task events t) ↔ (t < n)
  pub order : FollowTurns [] events
  pub last : EndsAreLast [] events
  pub joined : (t i c : ℕ) → Does (turns_told events) t i (Join c) → c < n

-- a cut log's tasks join what they haven't
abbrev pub graph_told : Extent → TaskTurns → TaskTurns
graph_told Whole tasks = tasks
graph_told Cut tasks = with_joins tasks

-- the log's graph is that of the turns told
pub record IsGraphTold (events : List Event) (extent : Extent) (n : ℕ) (log : LogTasks) : Type 0 where
  pub count : length log.turns ≡ n
  pub numbers : (t : ℕ) → t < n → told_number log.numbers t ≡ t
  pub turns : tasks_in log.turns ≡ graph_told extent (turns_told events)
  pub known : (t : ℕ) → t < n → known_of log t ≡ Some (length (turns_told events t))

abbrev pub LogsTellGraphs : Type 0
LogsTellGraphs = (n : ℕ) (events : List Event) (extent : Extent) (log : LogTasks) → AreToldInOrder n events → IsLog events extent log → IsGraphTold events extent n log
