-- Re-exports from `ledger_step_laws` for the crates above.
pub use Rattle.ledger_step_laws.proofs.Ahead.{SameOf, both_rested, heap_then, private_alone, private_end, private_off, rested_alone, rested_back, rested_same, steps_alone_all, steps_same, with_at, with_off}
pub use Rattle.ledger_step_laws.proofs.Alone.{alone_along, alone_back, machine_alone}
pub use Rattle.ledger_step_laws.proofs.Along.{alike_steps, steps_end, steps_know, steps_limit, steps_off}
pub use Rattle.ledger_step_laws.proofs.Entries.{end_changes, same_tasks, sweep_changes, took_takes, within_rested}
pub use Rattle.ledger_step_laws.proofs.Kin.{private_kin, steps_kin}
pub use Rattle.ledger_step_laws.proofs.Known.{legal_knows}
pub use Rattle.ledger_step_laws.proofs.Private.{GoesOn, private_on}
pub use Rattle.ledger_step_laws.proofs.Rested.{rest_heaps, rested_changes, rested_knows, rested_sound, rested_view, rested_worker}
pub use Rattle.ledger_step_laws.proofs.Root.{root_alone}
pub use Rattle.ledger_step_laws.proofs.Split.{entry_runs, legal_alive, legal_idle, split_leaves, steps_go, steps_worker, worker_step}
pub use Rattle.ledger_step_laws.proofs.Tree.{leaf_alone}
pub use Rattle.ledger_step_laws.proofs.ChangesByWrite.{is_number, is_store, is_swap, waits_rest}
pub use Rattle.ledger_step_laws.proofs.BeforeLast as BeforeLast
