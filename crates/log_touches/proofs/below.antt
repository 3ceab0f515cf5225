-- What crates above cite of the crates below.
pub mod log_places
