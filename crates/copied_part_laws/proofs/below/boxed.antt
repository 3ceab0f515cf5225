-- Re-exports from `boxed` for the crates above.
pub use Rattle.leaf_collections.proofs.below.boxed.BoxedSlotSendSync as BoxedSlotSendSync
