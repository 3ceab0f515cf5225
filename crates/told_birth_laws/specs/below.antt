-- Re-exports from lower crates for the crates above.
pub mod log_births
pub mod plain_vec
pub mod told_graph_laws
