pub mod Words
pub mod Events
pub mod Entries
pub mod Timeline
pub mod Pieces
pub mod Laws
mod Common
