-- Re-exports from `mark_sweep_gc` for the crates above.
pub use Rattle.mark_sweep_gc.proofs.Addresses.{has_in, in_has}
pub use Rattle.mark_sweep_gc.proofs.Finding.{found_few}
pub use Rattle.mark_sweep_gc.proofs.Giving.{given_both, given_one, unit_sum}
pub use Rattle.mark_sweep_gc.proofs.Kept.{all_marked_is_done}
pub use Rattle.mark_sweep_gc.proofs.Sweeping.{size_swept}
pub use Rattle.mark_sweep_gc.proofs.Kept as Kept
pub use Rattle.mark_sweep_gc.proofs.marking.Marking.TheSendSync as MarkingSendSync
pub use Rattle.mark_sweep_gc.proofs.room.MarkingRoom.TheSendSync as MarkingRoomSendSync
