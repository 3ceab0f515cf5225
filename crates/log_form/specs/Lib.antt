pub mod Text
pub mod Events
pub mod Faults
