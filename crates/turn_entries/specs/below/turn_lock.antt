-- Re-exports from `turn_lock` for the crates above.
pub use Rattle.turn_lock.specs.Journal.{NoneBy, entries_by}
pub use Rattle.turn_lock.specs.Seats.{AreAllSeats, AreNewSeats, Extends, HasNoTurn, HasOwnEntries, HasTurn, IsAlike, IsFinalFor, Knows, SameWorker, opening_view, own_entries, view, with_taken}
pub use Rattle.turn_lock.specs.Turn.{identity}
pub use Rattle.turn_lock.specs.contracts.turn.Turn as TurnContracts
