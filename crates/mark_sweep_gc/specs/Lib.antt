pub mod Snapshot
pub mod MarkingValue
pub mod Swept
pub mod Laws
mod Common
