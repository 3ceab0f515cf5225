pub mod LeafHeapValue
pub mod Counted
pub mod Units
pub mod FieldLaws
pub mod PlaceLaws
pub mod below
mod Common
