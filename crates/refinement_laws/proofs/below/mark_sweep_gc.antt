-- Re-exports from `mark_sweep_gc` for the crates above.
pub use Rattle.refinement.proofs.below.mark_sweep_gc.{all_marked_is_done, found_few, given_both, given_one, has_in, in_has, size_swept, unit_sum}
pub use Rattle.refinement.proofs.below.mark_sweep_gc.Kept as Kept
pub use Rattle.refinement.proofs.below.mark_sweep_gc.MarkingRoomSendSync as MarkingRoomSendSync
pub use Rattle.refinement.proofs.below.mark_sweep_gc.MarkingSendSync as MarkingSendSync
