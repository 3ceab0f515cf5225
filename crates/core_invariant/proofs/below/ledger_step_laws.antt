-- Re-exports from `ledger_step_laws` for the crates above.
pub use Rattle.refinement_laws.proofs.below.ledger_step_laws.{alone_along, alone_back, entry_runs, heap_then, legal_idle, legal_knows, rested_alone, rested_knows, rested_sound, rested_view, rested_worker, split_leaves, steps_alone_all, steps_know, waits_rest, with_at, with_off, within_rested}
