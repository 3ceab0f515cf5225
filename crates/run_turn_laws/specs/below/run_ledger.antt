-- Re-exports from `run_ledger` for the crates above.
pub use Rattle.run_log.specs.below.run_ledger.{is_legal, machine_of, tasks_in, tasks_of, Machine, end_of}
pub use Rattle.hh_model.specs.declared.data.End.TheVariants.{Done}
