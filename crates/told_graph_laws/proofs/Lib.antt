pub mod Ends
pub mod Graphs
pub mod Kept
mod Common
