pub mod Spaces
pub mod Known
mod Common
