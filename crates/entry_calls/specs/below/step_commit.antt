-- Re-exports from `step_commit` for the crates above.
pub use Rattle.fork_join_commit.specs.below.step_commit.{FinishesAlone, GoesAlone, HaltsAlone, IsShared, alone_entry, machine_after, ended_rest, then_accounts, EndingTells, IsBeyond}
