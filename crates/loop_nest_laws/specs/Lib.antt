pub mod Frames
pub mod Nest
pub mod LoopLaw
mod Common
