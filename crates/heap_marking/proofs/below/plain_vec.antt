-- Re-exports from `plain_vec` for the crates above.
pub use Rattle.core_invariant.proofs.below.plain_vec.{or_false, got_set, if_none, all_from, got_other}
