pub mod Values
pub mod Deltas
pub mod Heaps
pub mod Run
