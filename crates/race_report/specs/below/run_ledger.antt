-- Re-exports from `run_ledger` for the crates above.
pub use Rattle.run_journal.specs.below.run_ledger.{after, refusal, heap_of, held, held_in, IsPrefix, end_of, first_refused, is_legal, is_legal_from, ledger_of, machine_of, opening, or_short, refused_as_run, tasks_in, tasks_of, IsDropped, KeepsReachable, is_paced, report_of, end_line, end_status, out_text, report_lines, Ledger, Short, RefusedAt, Report, Fuel, Machine, Pool, RunEnd}
