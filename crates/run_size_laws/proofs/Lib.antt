mod Acts
mod Lines
pub mod RunSizes
pub mod below
mod Common
