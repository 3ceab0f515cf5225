pub mod Put
pub mod Told
pub mod Holdings
pub mod Laws
mod Common
