pub mod Dot
pub mod Laws
