use Rattle.worker_run.proofs.Common.{◌≡◌, length, SameHand, TookNone, thefts, TriedBefore}
use Rattle.worker_run.proofs.tasks.find.Given as goal

abbrev pub invariant-loop-k : goal.invariant-loop-k
invariant-loop-k g l = record {
  same : SameHand l.fn.hand l.hand;
  own : TookNone l.fn.hand l.hand;
  tried : TriedBefore l.worker l.k (thefts l.fn.hand) (thefts l.hand);
  workers : l.workers ≡ length (thefts l.fn.hand);
}
