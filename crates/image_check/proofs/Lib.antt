pub mod Numbers
mod Rounds
pub mod Entries
pub mod Members
pub mod Paths
mod Linked
mod References
mod Steps
mod Ordered
mod Sounds
mod Counts
mod Common
