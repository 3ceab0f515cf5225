-- Re-exports from lower crates for the crates above.
pub mod io_traits
pub mod refusal_lines
pub mod whole_call
