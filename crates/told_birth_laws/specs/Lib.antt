pub mod ToldBirths
pub mod below
