pub mod Noted
pub mod Counted
pub mod Sieved
pub mod Bytes
mod Common
