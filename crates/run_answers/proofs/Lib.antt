mod Replayed
pub mod below
mod Common
