pub mod Replayed
pub mod below
