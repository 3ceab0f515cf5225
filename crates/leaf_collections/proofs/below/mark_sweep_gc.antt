-- Re-exports from `mark_sweep_gc` for the crates above.
pub use Rattle.core_invariant.proofs.below.mark_sweep_gc.{unit_sum}
pub use Rattle.core_invariant.proofs.below.mark_sweep_gc.MarkingRoomSendSync as MarkingRoomSendSync
pub use Rattle.core_invariant.proofs.below.mark_sweep_gc.MarkingSendSync as MarkingSendSync
