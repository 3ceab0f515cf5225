pub mod Weights
pub mod Sums
pub mod Known
pub mod below
