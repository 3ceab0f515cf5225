use Rattle.std.proofs.Common.{◌≡◌, List, Some, slice_get, subst}
use Rattle.worker_run.specs.below.core_invariant.{SharedValue}
use Rattle.worker_run.specs.declared.worker_state.WorkerState.{WorkerState}
use Rattle.worker_tests.proofs.threads.watched.Goals as goal

pub all_pass-requires-after_bounds : goal.all_pass-requires-after_bounds
all_pass-requires-after_bounds g c κs within = λ k d at. (c.in-Ok.ensures.all.each_worker_state k d (subst (λ (l : List (WorkerState SharedValue)). slice_get l k ≡ Some d) c.as_mut_slice.ensures.value at)).0.idle
