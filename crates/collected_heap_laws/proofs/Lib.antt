pub mod Reading
pub mod Telling
mod Giving
mod Common
