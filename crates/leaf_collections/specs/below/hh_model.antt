-- Re-exports from `hh_model` for the crates above.
pub use Rattle.core_invariant.specs.below.hh_model.{Depth, Done, Frame, Name, Object, Running, MachineState, Task, Trapped, depth_limit, ended_by, fetched, object_at, step, Counted, IsForkJoinState, asked, row_of}
