pub mod Draws
pub mod Text
pub mod Laws
