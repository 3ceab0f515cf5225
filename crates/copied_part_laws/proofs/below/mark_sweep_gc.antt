-- Re-exports from `mark_sweep_gc` for the crates above.
pub use Rattle.leaf_collections.proofs.below.mark_sweep_gc.MarkingRoomSendSync as MarkingRoomSendSync
pub use Rattle.leaf_collections.proofs.below.mark_sweep_gc.MarkingSendSync as MarkingSendSync
