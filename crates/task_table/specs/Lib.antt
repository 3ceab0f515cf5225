pub mod Rows
pub mod Lines
pub mod Table
pub mod below
mod Common
