-- Re-exports from `plain_vec` for the crates above.
pub use Rattle.run_journal.proofs.below.plain_vec.{contains_from_in, in_from_contains, not_zero, none_is}
