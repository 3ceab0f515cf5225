pub mod Joined
pub mod Texts
pub mod Along
pub mod Parts
mod Common
