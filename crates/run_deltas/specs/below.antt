pub mod run_ledger
