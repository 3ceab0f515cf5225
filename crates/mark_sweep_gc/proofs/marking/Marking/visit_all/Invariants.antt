use Rattle.mark_sweep_gc.proofs.Common.{List, take, All, Contains, ChunkValue, HasObjectAt, FindsMore, HasCapacityForAll}
use Rattle.mark_sweep_gc.proofs.marking.Marking.visit_all.Given as goal

abbrev pub invariant-loop-object : goal.invariant-loop-object
invariant-loop-object l = record {
  finds : FindsMore (λ a. Contains l.objects a × Contains (take l.object-index l.objects) a) l.fn.self l.self;
  room : (h : List ChunkValue) → All (HasObjectAt h) l.objects → HasCapacityForAll h l.fn.self → HasCapacityForAll h l.self;
}
