-- Re-exports from `ledger_step_laws` for the crates above.
pub use Rattle.refinement.proofs.below.ledger_step_laws.{rested_view, with_off, rested_worker, legal_knows, leaf_alone, private_off, with_at, heap_then, GoesOn, private_on, entry_runs, alone_along, alone_back, legal_idle, rested_alone, rested_knows, rested_sound, split_leaves, steps_alone_all, steps_know, waits_rest, within_rested}
