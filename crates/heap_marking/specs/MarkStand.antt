-- What is known of a heap that is being marked.
use Rattle.std.specs.Prelude.{◌≡◌, ◌==◌, ◌↔◌, ℕ, Bool, true, IsTrue, Some, None, slice_get}
use Rattle.heap_marking.specs.Common.{is_waiting, heap_of, left_in, IsAllMarked, IsMarking, MarkingValue, Fork, IsSince, kept, ParkedTask, SharedValue, accounts, marks_at, rest_at, value_of, IsSharedValue}
use Rattle.heap_marking.specs.MarkCauses.{marking_cause}
use Rattle.heap_marking.specs.Marking.{Further}

pub record StandsMarked (w : SharedValue) (t : ℕ) : Type 0 where
  pub wait : is_waiting (slice_get (accounts w).machine.tasks t) ≡ true
  pub keeps : ((value_of w).noted t).keeps ≡ true
  pub rest : ParkedTask
  pub there : rest_at w.rests t ≡ Some rest
  pub marks : MarkingValue
  pub at : marks_at w.marks t ≡ Some marks
  pub further : Further w t rest marks
  -- nothing is left if and only if the marking is ready
  pub left : (ready : Bool) → ((f : Fork) → IsSince f (kept (value_of w) t) rest.heap.chunks → IsMarking f (kept (value_of w) t) marks → IsTrue ready ↔ IsAllMarked f (kept (value_of w) t) marks)
      → ready ≡ (left_in (heap_of (accounts w) t) == 0)

-- if no cause speaks against it
abbrev pub MarkedHeapStands : Type 0
MarkedHeapStands = (w : SharedValue) (t : ℕ) → IsSharedValue w → (accounts w).end ≡ None → marking_cause w t ≡ None → StandsMarked w t
