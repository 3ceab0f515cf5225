mod Lines
pub mod Sums
pub mod Writing
mod Common
