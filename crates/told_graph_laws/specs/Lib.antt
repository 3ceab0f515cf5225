pub mod ToldGraph
pub mod below
