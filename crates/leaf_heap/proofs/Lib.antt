pub mod HeapLemmas
pub mod ChunkAdded
pub mod PlacedLaws
pub mod Settled
pub mod Near
pub mod Counting
pub mod below
mod Common
