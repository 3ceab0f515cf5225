pub mod entry_calls
