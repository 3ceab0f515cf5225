mod ListLemmas
mod OwnObjects
mod FoundCounts
pub mod FoundLemmas
mod Discovered
pub mod LastChunk
mod Upto
pub mod FollowLemmas
mod FrameLemmas
mod Exchanges
pub mod Moves
mod Rooms
mod Places
mod Leading
mod Larges
mod NoLarge
pub mod Evacuated
mod Phases
pub mod NewNumbers
pub mod Rebuilt
pub mod Naming
pub mod SmallSurvivors
pub mod Order
pub mod Tidied
pub mod Packing
mod Collecting
pub mod Needs
mod Common
