pub mod BookValue
pub mod below
