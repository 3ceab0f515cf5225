pub mod Stops
pub mod below
