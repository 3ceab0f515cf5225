mod Steps
mod Stops
mod Turns
pub mod Along
pub mod Ends
pub mod below
mod Common
