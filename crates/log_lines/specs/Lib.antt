pub mod Words
pub mod Limits
pub mod Grammar
pub mod Letters
pub mod Rest
pub mod Writing
pub mod Laws
