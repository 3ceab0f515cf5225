use Rattle.mark_sweep_gc.proofs.Common.{◌≡◌, ◌+◌, ◌-◌, ◌≤◌, length, take, marked_of, IsMarking, IsOf, Fork, IsSince}
use Rattle.mark_sweep_gc.proofs.marking.Marking.mark_objects.Given as goal

abbrev pub invariant-loop-count : goal.invariant-loop-count
invariant-loop-count l = record {
  own : IsOf l.heap.chunks l.kept l.self;
  followed : l.self.followed ≡ length l.kept;
  before : take l.fn.self.marked l.self.found ≡ marked_of l.fn.self;
  count : l.self.marked ≡ l.fn.self.marked + l.count;
  most : l.count ≤ l.n;
  marking : (f : Fork) → IsSince f l.kept l.heap.chunks → IsMarking f l.kept l.fn.self → IsMarking f l.kept l.self;
}

abbrev pub decreases-loop-count : goal.decreases-loop-count
decreases-loop-count l = l.n - l.count
