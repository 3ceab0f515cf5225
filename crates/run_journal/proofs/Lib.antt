mod Keeps
mod Opens
pub mod Replays
pub mod Steadies
pub mod below
mod Common
