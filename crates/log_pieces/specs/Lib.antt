pub mod Claims
pub mod LineWalk
pub mod Pieces
mod Common
