mod ObjectsApart
mod SurvivorsReached
mod ObjectsPlaced
mod ObjectsMoved
mod NamesLaid
mod SurvivorOrder
mod BeforeTheCopy
mod LargeNames
mod CopiedNames
mod ChunkPlaces
mod CopiedForm
mod CopyMade
mod ChunkWords
mod CopyCounts
pub mod CopySays
mod ChunksGivenBack
pub mod CopyHanded
pub mod CopyBegins
pub mod below
mod Common
