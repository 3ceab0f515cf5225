mod Calculated
pub mod Holds
mod Numbers
pub mod Snaps
mod Standings
pub mod Stepped
pub mod Uses
mod Went
mod Common
