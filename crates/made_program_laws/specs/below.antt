-- Re-exports from lower crates for the crates above.
pub mod hh_lang
pub mod program_make
pub mod program_reader
pub mod round_trip_laws
pub mod run_trace
pub mod text_lines
pub mod trace_input
