pub mod Reads
pub mod below
