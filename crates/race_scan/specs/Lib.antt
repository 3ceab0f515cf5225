pub mod Touches
pub mod Slots
pub mod Value
pub mod Scan
pub mod Laws
pub mod below
mod Common
