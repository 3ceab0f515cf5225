pub mod Held
pub mod Machines
mod Common
