use Rattle.log_report.proofs.Common.{◌≡◌, ◌≤◌, ◌*◌, ◌^◌, take, sum_by, locations_of}
use Rattle.log_report.proofs.end.racing_locations.Given as goal

abbrev pub invariant-loop-race : goal.invariant-loop-race
invariant-loop-race l = record {
  count : l.count ≡ sum_by locations_of (take l.race-index l.races);
  below : l.count ≤ l.race-index * 2 ^ 64;
}
