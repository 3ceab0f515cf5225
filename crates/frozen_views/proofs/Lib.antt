pub mod Levels
pub mod PieceLists
mod Common
