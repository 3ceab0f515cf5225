-- Re-exports from `leaf_collections` for the crates above.
pub use Rattle.entry_calls.specs.below.leaf_collections.{FitsCopied, end_entry, without_collection}
