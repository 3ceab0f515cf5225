pub mod Serial
pub mod Parts
mod Common
