pub mod Copied
pub mod Handed
pub mod below
