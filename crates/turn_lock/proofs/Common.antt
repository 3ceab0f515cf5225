-- The names of lower crates and of the specifications that these proofs use. Declares nothing.
pub use Rattle.atomic_table.proofs.Lists.{at_set, set_else, at_longer, at_last}
pub use Rattle.atomic_table.specs.Seated.{TableId}
pub use Rattle.atomic_table.specs.Table.{State, Me, step, keeps, takes, gives, Allows, Splits, Joins, Seen, opening, rest}
pub use Rattle.atomic_table.specs.declared.shared.Seat.{Seat}
pub use Rattle.plain_vec.proofs.Members.{got_within}
pub use Rattle.plain_vec.proofs.Options.{none_some, some_apart}
pub use Rattle.plain_vec.proofs.Places.{got_some, got_middle, got_more}
pub use Rattle.std.proofs.Common.{◌≡◌, ◌≢◌, ◌⊎◌, ℕ, ◌+◌, ◌-◌, ◌*◌, ◌/◌, ◌%◌, ◌^◌, ◌<◌, ◌≤◌, true, List, [], ◌∷◌, ◌++◌, length, slice_index, set, sym, refl, ap, ◌∙◌, subst, arith, ⊎_elim, inl, inr, Option, Some, None, length-set, get_or-set_same, length-append, append-nil, append_assoc, unwrap_or, option_map, IfSome, eq-zero-or-pos, cond, ◌==◌, ne_eqb, eq-eqb, slice_get, zero, suc, get_or, remove, true≢false, lt_of_not-le, rules, IfOk}
pub use Rattle.std.proofs.lemmas.List.Elements.{filter-append}
pub use Rattle.std.proofs.lemmas.Option.{same_Some}
pub use Rattle.turn_lock.specs.Journal.{NoneBy, AllBelow, entries_by}
pub use Rattle.turn_lock.specs.Rule.{Sees, IsFree, IsTaken, Turning, HasAll, looks, returns, split_view, with_joined, Numbered, with_seat_more, spent_view}
pub use Rattle.turn_lock.specs.Seats.{Knows, Extends, IsAlike, with_looked, with_taken, with_given, IsFinalFor, HasOwnEntries, GaveOne, own_entries, view, HasNoTurn, SameWorker, AreNewSeats, AreAllSeats, opening_view, newcomer}
pub use Rattle.turn_lock.specs.declared.view.SeatView.{SeatView}
