-- Re-exports from lower crates for the crates above.
pub mod fork_graph
