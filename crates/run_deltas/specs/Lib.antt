pub mod Deeds
pub mod Steps
pub mod Roots
pub mod Tasks
pub mod Deltas
pub mod News
pub mod below
mod Common
