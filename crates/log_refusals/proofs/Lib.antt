pub mod Events
pub mod Lines
pub mod Parts
mod Common
