pub mod Covering
pub mod Slotting
pub mod Visiting
pub mod Scanning
pub mod Releasing
pub mod Exact
mod Common
