pub mod Lists
mod Carried
pub mod Swaps
pub mod Changed
pub mod Effects
pub mod Fixed
pub mod Unnamed
pub mod Owners
pub mod Follows
pub mod Stepped
pub mod Runs
mod Named
mod Common
