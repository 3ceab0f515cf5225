pub mod Numbers
pub mod Steps
pub mod Lines
pub mod Births
pub mod Turns
mod Common
