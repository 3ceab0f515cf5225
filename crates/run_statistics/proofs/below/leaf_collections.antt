-- Re-exports from `leaf_collections` for the crates above.
pub use Rattle.shared_tree.proofs.below.leaf_collections.{begin_answer, chunk_answer, end_free, put_off_answer, without_fresh}
