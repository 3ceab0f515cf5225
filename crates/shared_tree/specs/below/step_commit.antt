-- Re-exports from `step_commit` for the crates above.
pub use Rattle.entry_calls.specs.below.step_commit.{FinishesAlone, GoesAlone, HaltsAlone, IsShared, alone_entry, machine_after}
