pub mod Told
pub mod Labels
pub mod Races
pub mod Locations
pub mod Uses
pub mod Ends
pub mod HeapLines
pub mod LogReport
