use Rattle.log_places.proofs.Common.{◌/◌, ◌≤◌, KeepsCuts, AreDifferent}
use Rattle.log_places.proofs.Cutting.{AreCutBelow}
use Rattle.log_places.proofs.Along.{AreMarkedBelow}
use Rattle.log_places.proofs.places.Places.mark_run.Given as goal

abbrev pub invariant-loop-page : goal.invariant-loop-page
invariant-loop-page l = record {
  keeps : KeepsCuts l.fn.self l.self;
  cut : AreCutBelow l.self l.block l.start l.end l.page;
  run : AreMarkedBelow l.fn.self l.self l.block l.start l.end l.page;
  different : AreDifferent l.fn.self.keys → AreDifferent l.self.keys;
  from : l.start / 4096 ≤ l.page;
}
