pub mod ActLines
pub mod Search
pub mod Laws
