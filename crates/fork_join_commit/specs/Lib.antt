pub mod Forks
pub mod ChildEnds
pub mod Joins
pub mod NoTask
pub mod below
mod Common
