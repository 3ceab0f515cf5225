pub mod RaceGroups
pub mod Gathered
pub mod Laws
pub mod Swaps
pub mod Text
pub mod Shown
