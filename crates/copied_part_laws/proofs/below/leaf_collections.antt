-- Re-exports from `leaf_collections` for the crates above.
pub use Rattle.leaf_collections.proofs.WhyNoEnd.{end_free, unless_true}
