mod Copying
mod Finding
pub mod Rows
pub mod Giving
mod Rounding
pub mod Sent
mod Common
