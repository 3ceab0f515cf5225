-- Re-exports from lower crates for the crates above.
pub mod program_make
pub mod round_trip_laws
