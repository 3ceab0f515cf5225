pub mod Graph
pub mod Whole
pub mod below
