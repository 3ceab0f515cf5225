pub mod Refusals
pub mod below
