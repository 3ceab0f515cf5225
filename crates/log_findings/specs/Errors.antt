-- Why nothing is reported of a log that has no fault.
use Rattle.std.specs.Prelude.{◌≡◌, ◌⊎◌, ◌<◌, ◌≤◌, ◌^◌, ◌-◌, ℕ, Bool, true, List, length, sum}
use Rattle.log_left.specs.below.log_form.{events_of}
use Rattle.log_left.specs.below.log_tasks.{LogTasks}
use Rattle.log_races.specs.below.log_touches.{RacesError, regions_of_events}
use Rattle.log_races.specs.below.log_touches as races
use Rattle.log_races.specs.below.log_places.{AreOver}
use Rattle.log_births.specs.declared.find.FindError.{FindError}
use Rattle.log_births.specs.declared.find.FindError.TheVariants as births
use Rattle.log_heaps.specs.declared.error.HeapsError.{HeapsError}
use Rattle.log_heaps.specs.declared.error.HeapsError.TheVariants as heaps
use Rattle.log_heaps.specs.Heaps.{HasTooManyWords}
use Rattle.log_weights.specs.declared.cost.CostError.{CostError}
use Rattle.log_weights.specs.declared.cost.CostError.TheVariants as costs
use Rattle.log_weights.specs.Weights.{weights_of}
use Rattle.log_findings.specs.declared.error.ReportError.{ReportError}
use Rattle.log_findings.specs.declared.error.ReportError.TheVariants.{TooLong, TooManyStretches, TooMuchWork, TooManyWords, NoMemory}
use Rattle.log_findings.specs.Reported.{order_of}

abbrev pub of_races : RacesError → ReportError
of_races races.TooLong = TooLong
of_races races.TooManyStretches = TooManyStretches
of_races races.NoMemory = NoMemory

abbrev pub of_find : FindError → ReportError
of_find births.TooLong = TooLong
of_find births.NoMemory = NoMemory

abbrev pub of_cost : CostError → ReportError
of_cost costs.TooMuchWork = TooMuchWork
of_cost costs.NoMemory = NoMemory

abbrev pub of_heaps : HeapsError → ReportError
of_heaps heaps.TooLong = TooLong
of_heaps heaps.TooManyWords = TooManyWords
of_heaps heaps.NoMemory = NoMemory

-- the log is too large in this way; its words matter only if heaps are asked for
abbrev pub LogIsTooLarge : Bool → List (List ℕ) → LogTasks → ReportError → Type 0
LogIsTooLarge asked texts tasks TooLong = (2 ^ 32 < length (order_of tasks)) ⊎ (2 ^ 32 ≤ length (events_of texts))
LogIsTooLarge asked texts tasks TooManyStretches = AreOver (regions_of_events (events_of texts)) (2 ^ 64 - 1)
LogIsTooLarge asked texts tasks TooMuchWork = 2 ^ 64 ≤ sum (weights_of (events_of texts) tasks (order_of tasks))
LogIsTooLarge asked texts tasks TooManyWords = (asked ≡ true) × HasTooManyWords (events_of texts) tasks
LogIsTooLarge asked texts tasks NoMemory = Unit {0}
