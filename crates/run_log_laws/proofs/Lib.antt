mod Turns
mod Walks
pub mod Rows
pub mod Runs
pub mod Pairs
pub mod Completing
pub mod Whole
mod Common
pub mod below
