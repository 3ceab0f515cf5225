use Rattle.log_weights.proofs.Common.{◌≡◌, List, take, Event, weights_of, KnowsWork}
use Rattle.log_weights.proofs.weights.weights_by.Given as goal

abbrev pub invariant-loop-strand : goal.invariant-loop-strand
invariant-loop-strand l = (events : List Event) → KnowsWork l.work events → l.weights ≡ weights_of events l.tasks (take l.strand-index l.order)
