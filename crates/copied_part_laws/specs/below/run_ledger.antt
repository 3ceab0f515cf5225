-- Re-exports from `run_ledger` for the crates above.
pub use Rattle.leaf_collections.specs.below.run_ledger.{RunEnd, end_of, is_legal, is_paced}
