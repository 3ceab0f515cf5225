use Rattle.std.proofs.Common.{◌<◌, ◌≤◌, All, AllPairs}
use Rattle.log_places.specs.Places.{IsRegion}
use Rattle.race_scan.specs.declared.touch.Touch.{Touch}
use Rattle.scan_tests.proofs.verdicts.touches_of.Given as goal

abbrev pub invariant-loop-row : goal.invariant-loop-row
invariant-loop-row l = record {
  known : All (λ (t : Touch). t.access.strand < l.count) l.touches.items;
  sorted : AllPairs (λ (t u : Touch). t.access.strand ≤ u.access.strand) l.touches.items;
  last : All (λ (t : Touch). t.access.strand ≤ l.last) l.touches.items;
  regions : All (λ (t : Touch). IsRegion t.region) l.touches.items;
}
