mod Events
mod Lines
pub mod Texts
mod Common
