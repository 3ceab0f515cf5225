pub mod Known
pub mod Whole
pub mod Steps
pub mod Along
pub mod OverFiles
pub mod Lines
mod Common
