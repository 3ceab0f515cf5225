-- Re-exports from `boxed` for the crates above.
pub use Rattle.boxed.proofs.boxed_slot.BoxedSlot.TheSendSync as BoxedSlotSendSync
