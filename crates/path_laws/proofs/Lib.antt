pub mod Disentangled
pub mod Objects
pub mod Stored
pub mod FreeReads
pub mod Frozen
pub mod PathLaws
pub mod Leaves
pub mod below
mod Common
