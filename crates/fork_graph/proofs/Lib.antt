pub mod Once
pub mod Cut
pub mod SpawnSearch
pub mod States
pub mod Sound
pub mod Ends
pub mod Smallness
mod Common
