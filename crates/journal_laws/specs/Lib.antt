pub mod Accepted
pub mod Frozen
pub mod PaceLaw
mod Common
