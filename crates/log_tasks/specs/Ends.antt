-- What the strands of a log do, and what ends them.
use Rattle.std.specs.Prelude.{◌≢◌, Option, Some, None, List, [], ◌∷◌}
use Rattle.log_tasks.specs.Common.{Act, Spawn, Join, GraphStrand, Event, acts_on}
use Rattle.log_lines.specs.declared.line.Act.TheVariants as acts
use Rattle.log_tasks.specs.declared.ending.StrandEnd.{StrandEnd}
use Rattle.log_tasks.specs.declared.ending.StrandEnd.TheVariants.{Turns, Finishes}

-- how an act ends its strand, if it does
abbrev pub end_by : Act → Option StrandEnd
end_by (acts.Access a) = None
end_by (acts.Yield r) = None
end_by (acts.Store r) = None
end_by (acts.Birth block length) = None
end_by (acts.Release block) = None
end_by (acts.Work units) = None
end_by (acts.Spawn c) = Some (Turns (Spawn c))
end_by (acts.Join c) = Some (Turns (Join c))
end_by acts.Finish = Some Finishes

abbrev pub or_later : Option StrandEnd → Option StrandEnd → Option StrandEnd
or_later None later = later
or_later (Some e) later = Some e

-- the first end among acts
abbrev pub first_end : List Act → Option StrandEnd
first_end [] = None
first_end (a ∷ rest) = or_later (end_by a) (first_end rest)

-- how a strand ends, if its end is there
abbrev pub end_of : List Event → GraphStrand → Option StrandEnd
end_of events u = first_end (acts_on events u)

-- the strand does something
abbrev pub DoesSomething : List Event → GraphStrand → Type 0
DoesSomething events u = acts_on events u ≢ []
