pub mod Errors
pub mod Reported
pub mod below
