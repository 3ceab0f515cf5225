pub mod Accesses
pub mod Races
pub mod below
mod Common
