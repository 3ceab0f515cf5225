pub mod Prints
pub mod Clashes
pub mod Steps
pub mod Ordered
pub mod SameResult
pub mod Laws
mod Common
