mod Lines
mod Above
pub mod Inputs
mod Common
