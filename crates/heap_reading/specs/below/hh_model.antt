-- Re-exports from `hh_model` for the crates above.
pub use Rattle.core_invariant.specs.below.hh_model.{Counted, Done, End, Ended, Entangled, HasOneRoot, IsForkJoinState, Joined, Name, Object, Running, MachineState, TaskStatus, Strand, Task, Trapped, TreeOf, Waiting, asked, can_step, is_left, is_on_path, is_running, is_waiting, joined, joins_in, object_at, owner_of, parent_of, parents, row_of, run, step, waiting}
