-- Re-exports from `leaf_collections` for the crates above.
pub use Rattle.entry_calls.proofs.below.leaf_collections.{put_off_answer, without_fresh, chunk_answer, begin_answer, end_free}
