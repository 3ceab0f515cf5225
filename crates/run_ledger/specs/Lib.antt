pub mod Reachable
pub mod Heaps
pub mod Steps
pub mod Entries
pub mod Journals
pub mod Sound
pub mod Use
pub mod Report
pub mod Pace
pub mod Text
pub mod Laws
pub mod Cuts
pub mod Space
pub mod below
mod Common
