pub mod LeafEntry
pub mod WhyNoChunk
mod WhyNotDue
mod AccountChanges
pub mod CollectionPutOff
pub mod WhyNoCollection
mod NewChunks
mod FallingChunks
mod CollectionBegins
pub mod BeginEntered
mod MoreChunksRead
pub mod MoreChunksLaid
pub mod ChunkGiven
pub mod CollectionEnds
pub mod WhyNoEnd
pub mod below
mod Common
