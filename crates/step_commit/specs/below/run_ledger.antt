-- Re-exports from `run_ledger` for the crates above.
pub use Rattle.core_invariant.specs.below.run_ledger.{CountsFew, Heap, Ledger, has_no_caller, heap_of, is_open, is_private, is_private_by, is_private_line, let_go, or_fresh, owns, task_steps, touched}
