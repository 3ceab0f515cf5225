mod Entries
pub mod below
mod Common
