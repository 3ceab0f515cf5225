-- Why the races of a log aren't known.
use Rattle.std.specs.Prelude.{◌⊎◌, ◌<◌, ℕ, List, length}
use Rattle.fork_graph.specs.declared.graph.GraphStrand.{GraphStrand}
use Rattle.log_form.specs.Events.{Event}
use Rattle.log_touches.specs.declared.numbers.RacesError.{RacesError}
use Rattle.log_touches.specs.declared.numbers.RacesError.TheVariants.{TooManyStretches, TooLong, NoMemory}
use Rattle.log_touches.specs.Strands.{regions_of_events}
use Rattle.log_touches.specs.Limits.{most_acts}
use Rattle.log_touches.specs.below.log_places.{AreOver}

-- its acts are too many, or its locations have too many stretches
abbrev pub IsTooLargeFor : List Event → ℕ → RacesError → Type 0
IsTooLargeFor events limit TooManyStretches = AreOver (regions_of_events events) limit
IsTooLargeFor events limit TooLong = most_acts < length events
IsTooLargeFor events limit NoMemory = Unit {0}

-- or its strands are too many, which stand in their serial order
abbrev pub RacesAreTooMany : List Event → List GraphStrand → ℕ → RacesError → Type 0
RacesAreTooMany events order limit TooManyStretches = AreOver (regions_of_events events) limit
RacesAreTooMany events order limit TooLong = (most_acts < length order) ⊎ (most_acts < length events)
RacesAreTooMany events order limit NoMemory = Unit {0}
