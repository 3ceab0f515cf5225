pub mod Blocks
pub mod Findings
pub mod Lines
pub mod Checks
pub mod Found
pub mod Laws
mod Common
pub mod below
