pub mod Placed
pub mod Search
pub mod Causes
pub mod Texts
