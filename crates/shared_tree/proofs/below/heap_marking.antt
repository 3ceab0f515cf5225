-- Re-exports from `heap_marking` for the crates above.
pub use Rattle.entry_calls.proofs.below.heap_marking.{begin_counted, begin_marked, begin_stops, entered_accounts, fork_is, goes_free, joined_is, joined_stops, marked_free, paces_stay, marks_refuse, or_none, keeps_items, mark_kept, steps_kept, drop_keeps, owed_is, owed_marks}
