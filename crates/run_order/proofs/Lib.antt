pub mod Exits
pub mod Ways
pub mod Orders
mod Common
