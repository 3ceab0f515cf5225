pub mod Runs
pub mod Traces
mod ImagesTold
pub mod Imaged
pub mod Answered
pub mod Deliveries
mod Given
mod Alike
mod Recorded
mod Raceless
mod Headline
mod Taken
mod Common
