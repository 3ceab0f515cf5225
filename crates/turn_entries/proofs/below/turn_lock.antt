-- Re-exports from `turn_lock` for the crates above.
pub use Rattle.turn_lock.proofs.Laws.{first_there, kept_are_all, new_are_all, own_of_taken}
pub use Rattle.turn_lock.proofs.SeatLists.{emptied, removed_first}
pub use Rattle.turn_lock.proofs.turn.Turn.TheSendSync as TurnSendSync
pub use Rattle.turn_lock.proofs.view.SeatView.TheSendSync as SeatViewSendSync
