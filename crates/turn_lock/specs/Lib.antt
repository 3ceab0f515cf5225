pub mod Journal
pub mod Seats
pub mod Turn
pub mod Rule
