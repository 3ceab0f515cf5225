pub mod Stopped
pub mod Winner
mod TurnLaws
mod Example
mod Common
