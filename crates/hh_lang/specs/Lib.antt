pub mod Form
pub mod Limits
pub mod Number
pub mod Loop
pub mod below
