-- Re-exports from `plain_vec` for the crates above.
pub use Rattle.leaf_collections.proofs.below.plain_vec.{none_of, none_some}
pub use Rattle.heap_marking.proofs.below.plain_vec.{or_false, got_set, if_none, all_from, got_other}
