mod LimitsSet
mod Literal
mod Numbers
mod Operands
mod Ranges
mod Rows
mod Shapes
pub mod Taken
mod Plain
mod Common
