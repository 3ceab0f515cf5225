pub mod Cuts
pub mod Fails
mod Common
