pub mod Turns
pub mod Winner
