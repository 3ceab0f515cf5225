pub mod Searching
pub mod Lines
pub mod Saying
mod Common
