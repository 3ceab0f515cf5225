pub mod Parts
pub mod Along
mod Common
