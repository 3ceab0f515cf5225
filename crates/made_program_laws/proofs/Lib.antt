mod Names
mod Rows
mod Between
mod Functions
pub mod Made
pub mod below
mod Common
