-- Re-exports from lower crates for the crates above.
pub mod read_write_all
pub mod hh_lang
