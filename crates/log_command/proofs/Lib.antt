pub mod Names
pub mod Answered
mod Common
