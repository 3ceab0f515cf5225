pub mod Expected
pub mod Text
pub mod Json
pub mod Shown
pub mod below
