pub mod ToldBirths
