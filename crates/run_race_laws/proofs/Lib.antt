pub mod Deeds
mod Told
pub mod Races
mod Common
