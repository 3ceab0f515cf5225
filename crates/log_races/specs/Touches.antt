-- The accesses of a log, in the serial order of its strands.
use Rattle.std.specs.Prelude.{ℕ, ◌+◌, Option, Some, None, List, [], ◌∷◌, ◌++◌, nat_le, if◌then◌else◌}
use Rattle.fork_graph.specs.declared.graph.GraphStrand.{GraphStrand}
use Rattle.log_form.specs.Events.{Event}
use Rattle.log_tasks.specs.declared.tasks.LogTasks.{LogTasks}
use Rattle.log_tasks.specs.Numbers.{log_strand}
use Rattle.log_tasks.specs.Rows.{known_of}
use Rattle.log_touches.specs.Strands.{touches_on}
use Rattle.log_touches.specs.below.race_scan.{Touch}

abbrev pub told_if : Option ℕ → List ℕ → GraphStrand → Option GraphStrand
told_if None numbers u = None
told_if (Some known) numbers u = if nat_le u.index known then Some (log_strand numbers u) else None

-- a strand of the graph as the log has it, if the log tells how its task came to it
abbrev pub told_strand : LogTasks → GraphStrand → Option GraphStrand
told_strand log u = told_if (known_of log u.task) log.numbers u

abbrev pub touches_told : List Event → Option GraphStrand → ℕ → List Touch
touches_told events None s = []
touches_told events (Some u) s = touches_on events u s

-- the accesses of strand u of the graph, whose serial number is s
abbrev pub touches_at : List Event → LogTasks → GraphStrand → ℕ → List Touch
touches_at events log u s = touches_told events (told_strand log u) s

-- of strands whose serial numbers are s, s + 1 and so on
abbrev pub touches_from : List Event → LogTasks → ℕ → List GraphStrand → List Touch
touches_from events log s [] = []
touches_from events log s (u ∷ us) = touches_at events log u s ++ touches_from events log (s + 1) us

-- of all strands, which stand in their serial order
abbrev pub touches_of : List Event → LogTasks → List GraphStrand → List Touch
touches_of events log order = touches_from events log 0 order
