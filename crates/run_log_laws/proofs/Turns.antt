-- What holds of turns that are the edges of a run.
use Rattle.run_log_laws.proofs.Common.{◌≡◌, ◌<◌, ◌≤◌, ◌+◌, ◌*◌, ℕ, Bool, true, List, length, In, Spawn, Join, Edge, Precedes, strand, edge}
use Rattle.fork_graph.specs.Graph as graph

-- turn i of the task t spawns c: it is the first or the second of a fork
pub record SpawnsAt (edges : List Edge) (t i c : ℕ) : Type 0 where
  pub fork : ℕ
  pub side : ℕ
  pub two : side < 2
  pub at : i ≡ 4 * fork + side
  pub there : In edges (edge (strand t fork) (strand c 0))

-- it joins c, which takes no turn any more
pub record JoinsAt (jd : ℕ → Bool) (js : ℕ → ℕ) (edges : List Edge) (tasks : graph.TaskTurns) (t i c : ℕ) : Type 0 where
  pub fork : ℕ
  pub side : ℕ
  pub two : side < 2
  pub at : i ≡ 4 * fork + 2 + side
  pub over : jd c ≡ true
  pub all : length (tasks c) ≡ 4 * js c
  pub there : In edges (edge (strand c (js c)) (strand t (fork + 1)))

-- an edge of a fork
pub record IsFork (tasks : graph.TaskTurns) (e : Edge) : Type 0 where
  pub side : ℕ
  pub two : side < 2
  pub turn : graph.Does tasks e.source.task (4 * e.source.joins + side) (Spawn e.target.task)

-- an edge of a join
pub record IsJoin (js : ℕ → ℕ) (tasks : graph.TaskTurns) (e : Edge) (fork : ℕ) : Type 0 where
  pub side : ℕ
  pub two : side < 2
  pub turn : graph.Does tasks e.target.task (4 * fork + 2 + side) (Join e.source.task)
  pub whole : 4 * fork + 4 ≤ length (tasks e.target.task)
  pub last : e.source.joins ≡ js e.source.task

pub record AreTurns (jd : ℕ → Bool) (js : ℕ → ℕ) (edges : List Edge) (tasks : graph.TaskTurns) : Type 0 where
  pub spawns : (t i c : ℕ) → graph.Does tasks t i (Spawn c) → SpawnsAt edges t i c
  pub joins : (t i c : ℕ) → graph.Does tasks t i (Join c) → JoinsAt jd js edges tasks t i c
  pub forks : (e : Edge) → In edges e → e.target.joins ≡ 0 → IsFork tasks e
  pub ends : (e : Edge) (fork : ℕ) → In edges e → e.target.joins ≡ fork + 1 → IsJoin js tasks e fork
  -- a strand leads to the one after its fork's join
  pub rising : (t fork c : ℕ) → graph.Does tasks t (4 * fork + 2) (Join c) → Precedes edges (strand t fork) (strand t (fork + 1))
