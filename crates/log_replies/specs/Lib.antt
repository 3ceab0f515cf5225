pub mod Blocks
pub mod Status
pub mod Shown
pub mod below
