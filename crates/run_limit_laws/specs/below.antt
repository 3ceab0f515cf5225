-- Re-exports from lower crates for the crates above.
pub mod fork_graph
pub mod hh_lang
pub mod log_places
pub mod log_text_laws
pub mod run_log
