pub mod Refused
pub mod below
