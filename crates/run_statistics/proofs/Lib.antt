mod BegunCollections
pub mod EntryCounted
mod PartWords
pub mod below
mod Common
