pub mod Paths
pub mod Disentangled
pub mod Leaves
pub mod ReadLaws
pub mod below
mod Common
