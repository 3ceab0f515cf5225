pub mod Starts
pub mod Marking
pub mod MarkCauses
pub mod MarkStand
pub mod Sweeping
pub mod Pace
pub mod below
mod Common
