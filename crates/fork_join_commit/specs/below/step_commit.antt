-- Re-exports from `step_commit` for the crates above.
pub use Rattle.step_commit.specs.Alone.{FinishesAlone, GoesAlone, HaltsAlone, IsBeyond, IsShared, EndingTells, alone_entry, ended_rest, machine_after, then_accounts}
