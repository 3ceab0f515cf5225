pub mod Faults
pub mod Races
pub mod Shown
pub mod Page
pub mod Views
pub mod Call
mod Common
