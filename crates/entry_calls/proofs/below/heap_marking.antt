-- Re-exports from `heap_marking` for the crates above.
pub use Rattle.heap_marking.proofs.ForksTold.{entered_accounts, begin_counted, begin_marked, begin_stops, fork_is, goes_free, joined_is, joined_stops, marked_free, paces_stay}
pub use Rattle.heap_marking.proofs.MarkCauses.{marks_refuse}
pub use Rattle.heap_marking.proofs.MarkEntries.{or_none, mark_asks, mark_enters, kept_noted, put_back, some_asks, some_count, some_enters, mark_answer, mark_begun, mark_fields, mark_starts, some_answer, words_now}
pub use Rattle.heap_marking.proofs.HeapAsked.{AsksMarked, AsksWaiting, asks_marked, asks_waiting}
pub use Rattle.heap_marking.proofs.MarkedHeap.{further, marks_within, never_unmarked, left_by, waits}
pub use Rattle.heap_marking.proofs.SweepEntered.{can_all, has_marking, m, marked, r, rest_is_there, fits_so, has_slot, world_so}
pub use Rattle.heap_marking.proofs.SweptRefusals.{sweep_answer, sweep_cause}
pub use Rattle.heap_marking.proofs.SweptUnits.{few_at, would_be}
pub use Rattle.heap_marking.proofs.WaitingSlot.{never_gone, rest}
pub use Rattle.heap_marking.proofs.PaceKeeps.{keeps_items, mark_kept, steps_kept}
pub use Rattle.heap_marking.proofs.PaceOwes.{drop_keeps, owed_is, owed_marks}
