-- A walk over the strands of a run, with a stack of those at which its tasks go on.
use Rattle.std.specs.Prelude.{◌+◌, Option, Some, None, List, [], ◌∷◌, ◌++◌, slice_get}
use Rattle.log_walk.specs.Common.{GraphTurn, Spawn, Join, GraphStrand, TaskTurns, strand, first_of}
use Rattle.log_walk.specs.declared.order.Walk.{Walk}

-- where the run goes on after a strand with this turn; the last of them comes first
abbrev pub following : GraphStrand → Option GraphTurn → List GraphStrand
following u None = []
following u (Some (Join c)) = strand u.task (u.index + 1) ∷ []
following u (Some (Spawn c)) = strand u.task (u.index + 1) ∷ (first_of c ∷ [])

abbrev pub visited : TaskTurns → Walk → GraphStrand → Walk
visited tasks walk u = record { order = walk.order ++ u ∷ []; stack = walk.stack ++ following u (slice_get (tasks u.task) u.index) }
