pub mod Addresses
mod Counting
mod Emptied
pub mod Finding
mod Marked
pub mod GoingOn
pub mod Sweeping
pub mod Giving
pub mod Kept
mod Common
