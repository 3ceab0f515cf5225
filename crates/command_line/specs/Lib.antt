pub mod App
pub mod Adds
pub mod CommandLine
pub mod Examples
pub mod Operands
pub mod Values
pub mod below
mod Common
