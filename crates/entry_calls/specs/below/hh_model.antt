-- Re-exports from `hh_model` for the crates above.
pub use Rattle.leaf_collections.specs.below.hh_model.{Counted, IsForkJoinState, MachineState, asked, row_of}
pub use Rattle.heap_marking.specs.below.hh_model.{depth_limit, ended_by, step, Task, fetched, Trapped, Done, Depth}
