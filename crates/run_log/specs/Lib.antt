pub mod Writing
pub mod Acts
pub mod Sites
pub mod Lines
pub mod Log
pub mod below
mod Common
