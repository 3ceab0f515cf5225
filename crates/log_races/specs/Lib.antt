pub mod Touches
pub mod Limits
pub mod below
