mod Lists
mod Laid
mod Meets
mod Owned
mod Joins
mod Above
mod Sought
pub mod Kept
mod Cleared
mod Birth
mod Common
