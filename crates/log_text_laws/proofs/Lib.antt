mod Lines
mod Texts
pub mod Logs
mod Common
