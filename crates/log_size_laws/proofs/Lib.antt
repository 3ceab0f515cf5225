mod Counting
mod Strands
mod Weights
mod Places
mod Words
pub mod Work
pub mod Small
mod Common
