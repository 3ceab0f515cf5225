use Rattle.log_places.proofs.Common.{List, Region, KeepsCuts, AreMarked}
use Rattle.log_places.proofs.Cutting.{RunsAreCut}
use Rattle.log_places.proofs.Along.{and_region, first_runs}
use Rattle.log_places.proofs.places.Places.mark.Given as goal

abbrev pub invariant-loop-run : goal.invariant-loop-run
invariant-loop-run l = record {
  keeps : KeepsCuts l.fn.self l.self;
  cut : RunsAreCut l.self l.region l.run;
  marked : (past : List Region) → AreMarked past l.fn.self → AreMarked (and_region past (first_runs l.region l.run)) l.self;
}
