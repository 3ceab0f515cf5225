-- Re-exports from `hh_model` for the crates above.
pub use Rattle.heap_reading.specs.below.hh_model.{Counted, Done, End, Ended, Entangled, IsForkJoinState, Joined, Name, Running, MachineState, TaskStatus, Strand, Task, Trapped, Waiting, asked, can_step, is_left, is_running, is_waiting, joined, row_of, step}
