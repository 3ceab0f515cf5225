pub mod Values
pub mod Pieces
pub mod below
mod Common
