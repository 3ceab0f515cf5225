pub mod ToldRaces
pub mod below
