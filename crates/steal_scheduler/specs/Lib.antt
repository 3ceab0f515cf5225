pub mod Ends
pub mod Rule
pub mod Thefts
pub mod Hands
pub mod New
