pub mod Ends
pub mod Numbers
pub mod Rows
pub mod Joining
pub mod Told
pub mod Sane
pub mod Spawning
pub mod Faults
pub mod EndCauses
pub mod Log
pub mod Laws
mod Common
