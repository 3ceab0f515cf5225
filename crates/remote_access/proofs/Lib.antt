mod ForeignObject
mod ForeignAddresses
mod TreePaths
mod OtherSteps
mod ReadEntered
pub mod NextOtherLine
pub mod OtherEntries
mod ObjectWritten
mod WriteNoted
mod WriteEntered
mod StoreValue
mod StoreKinds
mod StoresByCalls
pub mod StoreEntries
pub mod SetRooms
mod BeyondOther
mod Common
