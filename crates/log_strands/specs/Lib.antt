pub mod Places
pub mod Table
pub mod Acts
pub mod below
