mod Touches
pub mod ToldRaces
mod Common
