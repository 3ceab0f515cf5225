pub mod RunSizes
pub mod below
