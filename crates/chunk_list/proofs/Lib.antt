mod BareLevels
mod Rows
pub mod ViewLemmas
pub mod below
mod Common
