pub mod Lines
pub mod Walking
pub mod Marks
pub mod SpawnLinks
pub mod Climbs
pub mod Made
mod Common
