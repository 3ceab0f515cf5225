-- Re-exports from `leaf_collections` for the crates above.
pub use Rattle.leaf_collections.proofs.CollectionPutOff.{put_off_answer, put_off_entered, reset}
pub use Rattle.leaf_collections.proofs.LeafEntry.{without_fresh, AsksLeaf, LeafEntered, asks_leaf}
pub use Rattle.leaf_collections.proofs.WhyNoChunk.{chunk_answer, first_answer}
pub use Rattle.leaf_collections.proofs.WhyNoCollection.{begin_answer, begin_idle}
pub use Rattle.leaf_collections.proofs.WhyNoEnd.{end_free, end_answer}
pub use Rattle.leaf_collections.proofs.BeginEntered.{begin_count, begin_few, begin_free, begins, begins_with}
pub use Rattle.leaf_collections.proofs.ChunkGiven.{places_fit, fresh, chunk_entered, full_entered}
pub use Rattle.leaf_collections.proofs.CollectionEnds.{AsksLeafEnd, asks_leaf_end, are_fields, back_in_use, has_slot, leaf_ended}
