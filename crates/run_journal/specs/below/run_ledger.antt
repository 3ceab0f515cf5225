-- Re-exports from `run_ledger` for the crates above.
pub use Rattle.run_ledger.specs.Entries.{after, after_kind, chunk_units, refusal, with_chunk}
pub use Rattle.run_ledger.specs.Heaps.{collected, heap_of, held, held_in, in_use, swept_heap, with_heap, words_at, words_in}
pub use Rattle.run_ledger.specs.Journals.{IsPrefix, after_all, end_of, first_refused, first_refused_from, is_legal, is_legal_from, ledger_of, machine_of, opening, or_short, refused_as_run, tasks_in, tasks_of}
pub use Rattle.run_ledger.specs.Laws.{IsDropped, KeepsReachable}
pub use Rattle.run_ledger.specs.Pace.{is_paced}
pub use Rattle.run_ledger.specs.Report.{freed_by_end, freed_by_sweep, report_of, tally}
pub use Rattle.run_ledger.specs.Space.{store_words}
pub use Rattle.run_ledger.specs.Steps.{allocated_in, moved_to, settled, stepped_to, task_step, task_steps}
pub use Rattle.run_ledger.specs.Text.{end_line, end_status, end_words, line, out_text, report_lines}
pub use Rattle.run_ledger.specs.declared.data.Heap.{Heap}
pub use Rattle.run_ledger.specs.declared.data.Ledger.{Ledger}
pub use Rattle.run_ledger.specs.declared.data.Refused.TheVariants.{Short}
pub use Rattle.run_ledger.specs.declared.data.RefusedAt.{RefusedAt}
pub use Rattle.run_ledger.specs.declared.data.Report.{Report}
pub use Rattle.run_ledger.specs.declared.data.RunEnd.TheVariants.{Fuel, Machine, Pool}
pub use Rattle.run_ledger.specs.declared.data.RunEnd.{RunEnd}
