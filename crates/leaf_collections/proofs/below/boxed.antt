-- Re-exports from `boxed` for the crates above.
pub use Rattle.core_invariant.proofs.below.boxed.BoxedSlotSendSync as BoxedSlotSendSync
