mod Added
pub mod Steps
pub mod RunTold
mod Common
