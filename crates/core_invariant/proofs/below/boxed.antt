-- Re-exports from `boxed` for the crates above.
pub use Rattle.task_slots.proofs.below.boxed.BoxedSlotSendSync as BoxedSlotSendSync
