-- Re-exports from lower crates for the crates above.
pub mod fork_graph
pub mod hh_lang
pub mod plain_vec
