pub mod Balanced
pub mod Tags
mod Common
