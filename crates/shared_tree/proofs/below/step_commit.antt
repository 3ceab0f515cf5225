-- Re-exports from `step_commit` for the crates above.
pub use Rattle.entry_calls.proofs.below.step_commit.{alone_free, apart_cause, few_more, fits_on, next_on, ran, unless_false}
pub use Rattle.entry_calls.proofs.below.step_commit.LastSteps as LastSteps
