use Rattle.copying_gc.proofs.Common.{◌≡◌, take, drop, fold, with_chunks, followed_large, CanBeFollowed}
use Rattle.copying_gc.proofs.redirect.follow_larges.Given as goal

abbrev pub invariant-loop-survivor : goal.invariant-loop-survivor
invariant-loop-survivor l = record {
  led : l.heap ≡ with_chunks l.fn.heap (fold followed_large l.fn.heap.chunks (take l.survivor-index l.found));
  ready : CanBeFollowed l.heap.chunks (drop l.survivor-index l.found);
}
