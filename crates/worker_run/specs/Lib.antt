pub mod WorkerStates
pub mod Outcomes
pub mod Rounds
pub mod Tasks
pub mod below
mod Common
