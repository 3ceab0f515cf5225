-- Re-exports from `run_ledger` for the crates above.
pub use Rattle.run_journal.proofs.below.run_ledger.{first_refused_is_first, journals_can_be_cut, nothing_reachable_is_freed, entries_move_machine, kind_machine}
