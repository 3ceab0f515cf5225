pub mod Hashing
pub mod Groups
