mod Known
mod Numbers
mod Links
mod Resting
mod Drawing
pub mod Sounds
mod Orders
mod Chunks
pub mod Rounds
pub mod Keeping
pub mod below
mod Common
