pub mod Chains
pub mod Texts
pub mod Linking
pub mod Parts
pub mod below
mod Common
