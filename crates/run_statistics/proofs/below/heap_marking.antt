-- Re-exports from `heap_marking` for the crates above.
pub use Rattle.shared_tree.proofs.below.heap_marking.{begin_counted, begin_marked, begin_stops, drop_keeps, entered_accounts, fork_is, goes_free, joined_is, joined_stops, keeps_items, mark_kept, marked_free, marks_refuse, or_none, owed_is, owed_marks, paces_stay, steps_kept}
