use Rattle.mark_sweep_gc.proofs.Common.{take, Some, Contains, object_of, HasObjectAt, FindsMore, HasCapacityForAll}
use Rattle.mark_sweep_gc.proofs.marking.Marking.visit_refs.Given as goal

abbrev pub invariant-loop-field : goal.invariant-loop-field
invariant-loop-field l = record {
  finds : FindsMore (λ a. HasObjectAt l.heap.chunks a × Contains (take l.field (object_of l.heap.chunks l.object).refs) (Some a)) l.fn.self l.self;
  room : HasCapacityForAll l.heap.chunks l.self;
}
