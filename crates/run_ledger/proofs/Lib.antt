pub mod Members
pub mod Reached
pub mod Machine
pub mod Held
pub mod Sound
pub mod Moves
pub mod JoinKeepsHeaps
pub mod Steps
pub mod Journals
pub mod Cuts
pub mod Bounds
pub mod Grown
pub mod Weights
pub mod Stocks
pub mod Chunks
pub mod Laid
pub mod Booked
pub mod Space
pub mod Holders
pub mod Frames
pub mod Collections
mod Exact
pub mod Use
pub mod Going
pub mod RunOn
pub mod below
mod Common
