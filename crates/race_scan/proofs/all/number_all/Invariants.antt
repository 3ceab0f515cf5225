use Rattle.race_scan.proofs.Common.{ℕ, ◌<◌, take, slice_index_or, IsRegionCut, AreMarked, Touch, regions_of}
use Rattle.race_scan.proofs.all.number_all.Given as goal

abbrev pub invariant-loop-touch : goal.invariant-loop-touch
invariant-loop-touch l = record {
  cut : (k : ℕ) (d : Touch) → k < l.touch-index → IsRegionCut l.places (slice_index_or l.touches k d).region;
  marked : AreMarked (regions_of (take l.touch-index l.touches)) l.places;
}
