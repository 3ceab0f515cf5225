pub mod Told
pub mod Moves
pub mod Along
pub mod Legal
mod Common
