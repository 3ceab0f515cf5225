use Rattle.turn_lock.proofs.Common.{◌≡◌, ◌+◌, [], length, newcomer}
use Rattle.turn_lock.proofs.SeatLists.{AreNext}
use Rattle.turn_lock.proofs.turn.Turn.with_seats.Given as goal

abbrev pub invariant-loop : goal.invariant-loop
invariant-loop g l =
    (l.first.table_id ≡ l.fn.first.table_id) × (l.first.me ≡ (newcomer l.fn.first.me.0 0 l.counter, [])) × (length l.seats.items + 1 ≡ l.counter) × AreNext l.fn.self.table.shared.table_id l.fn.first.me.0 l.seats.items
