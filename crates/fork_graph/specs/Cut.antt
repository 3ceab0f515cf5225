-- Runs that were cut off: of each task a first part of its turns is known.
use Rattle.std.specs.Prelude.{◌≡◌, ◌==◌, ◌||◌, ℕ, Bool, false, not, List, [], ◌∷◌, ◌++◌, take, map, filter, reverse}
use Rattle.fork_graph.specs.declared.graph.GraphTurn.{GraphTurn}
use Rattle.fork_graph.specs.declared.graph.GraphTurn.TheVariants.{Spawn, Join}
use Rattle.fork_graph.specs.Graph.{TaskTurns}
use Rattle.fork_graph.specs.Nested.{IsForkJoin, IsNested}

-- the children that turns spawn, in order
abbrev pub spawned_by : List GraphTurn → List ℕ
spawned_by [] = []
spawned_by (Spawn c ∷ rest) = c ∷ spawned_by rest
spawned_by (Join c ∷ rest) = spawned_by rest

-- whether one of the turns joins the child
abbrev pub joins : List GraphTurn → ℕ → Bool
joins [] c = false
joins (Spawn d ∷ rest) c = joins rest c
joins (Join d ∷ rest) c = (d == c) || joins rest c

-- the children that no turn joins, last spawned first
abbrev pub unjoined : List GraphTurn → List ℕ
unjoined turns = filter (λ c. not (joins turns c)) (reverse (spawned_by turns))

-- the turns, and then joins of all that is unjoined, last spawned first
abbrev pub completed : List GraphTurn → List GraphTurn
completed turns = turns ++ map Join (unjoined turns)

-- each task with all that it spawned joined
abbrev pub with_joins : TaskTurns → TaskTurns
with_joins tasks t = completed (tasks t)

-- of each task a first part of its turns
abbrev pub IsCut : TaskTurns → TaskTurns → Type 0
IsCut cut whole = (t : ℕ) → (n : ℕ) × (cut t ≡ take n (whole t))

-- the joins that are added make a nested run
abbrev pub CompletedAreNested : Type 0
CompletedAreNested = (tasks : TaskTurns) → IsForkJoin tasks → IsNested (with_joins tasks)
