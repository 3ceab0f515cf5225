pub mod Graph
pub mod Nested
pub mod Cut
pub mod Faults
pub mod Children
pub mod SpawnSearch
