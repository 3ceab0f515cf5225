-- Re-exports from `hh_model` for the crates above.
pub use Rattle.run_journal.specs.below.hh_model.{object_at, can_step, run, run_from, IsStored, Done, Entangled, Trapped, End, Name, Object, MachineState, Task}
