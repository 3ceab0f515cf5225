pub mod Sources
pub mod Moved
pub mod Laws
