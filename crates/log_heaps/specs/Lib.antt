pub mod Acts
pub mod Rows
pub mod Heaps
pub mod Homes
pub mod Tally
pub mod Sums
pub mod below
mod Common
