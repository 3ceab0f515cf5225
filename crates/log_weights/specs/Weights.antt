-- The weights of a log's strands: the units of work that their `k` lines tell.
use Rattle.std.specs.Prelude.{◌≤◌, ◌^◌, ℕ, List, map, sum, sum_by}
use Rattle.fork_graph.specs.declared.graph.GraphStrand.{GraphStrand}
use Rattle.log_tasks.specs.declared.tasks.LogTasks.{LogTasks}
use Rattle.log_tasks.specs.Rows.{acts_in_graph}
use Rattle.log_strands.specs.below.log_lines.{Act, Access, Yield, Store, Birth, Release, Work, Spawn, Join, Finish}
use Rattle.log_strands.specs.below.log_form.{Event}
use Rattle.log_weights.specs.declared.cost.CostError.{CostError}
use Rattle.log_weights.specs.declared.cost.CostError.TheVariants.{TooMuchWork, NoMemory}

-- the units of work of an act
abbrev pub units_of : Act → ℕ
units_of (Work units) = units
units_of (Access a) = 0
units_of (Yield r) = 0
units_of (Store r) = 0
units_of (Birth block length) = 0
units_of (Release block) = 0
units_of (Spawn c) = 0
units_of (Join c) = 0
units_of Finish = 0

abbrev pub work_of : List Act → ℕ
work_of acts = sum_by units_of acts

-- the weight of a strand of the graph
abbrev pub weight_of : List Event → LogTasks → GraphStrand → ℕ
weight_of events tasks u = work_of (acts_in_graph events tasks u)

-- the weights of the strands of an order
abbrev pub weights_of : List Event → LogTasks → List GraphStrand → List ℕ
weights_of events tasks order = map (weight_of events tasks) order

-- the sum of weights doesn't fit in 64 bits
abbrev pub IsTooMuch : List ℕ → CostError → Type 0
IsTooMuch weights TooMuchWork = 2 ^ 64 ≤ sum weights
IsTooMuch weights NoMemory = Unit {0}
