pub mod Limits
pub mod Births
pub mod below
