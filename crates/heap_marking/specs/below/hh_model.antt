-- Re-exports from `hh_model` for the crates above.
pub use Rattle.core_invariant.specs.below.hh_model.{depth_limit, ended_by, step, Task, fetched, Trapped, Done, Depth}
