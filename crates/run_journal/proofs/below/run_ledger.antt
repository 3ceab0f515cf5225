-- Re-exports from `run_ledger` for the crates above.
pub use Rattle.run_ledger.proofs.Bounds.{heap_steps, steps_are_bounded}
pub use Rattle.run_ledger.proofs.Cuts.{after_cut, first_refused_is_first, journals_can_be_cut, legal_then}
pub use Rattle.run_ledger.proofs.Grown.{Grown, grown}
pub use Rattle.run_ledger.proofs.Holders.{allocated_end, heap_end, moved_on_end}
pub use Rattle.run_ledger.proofs.Journals.{nothing_reachable_is_freed}
pub use Rattle.run_ledger.proofs.Machine.{entries_move_machine, heap_machine, kind_machine, machine_is_run}
pub use Rattle.run_ledger.proofs.Weights.{sum_flat}
