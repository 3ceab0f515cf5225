pub mod Numbers
pub mod Extent
pub mod Puts
mod Common
