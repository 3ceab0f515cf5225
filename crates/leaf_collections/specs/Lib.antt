pub mod LeafBegin
pub mod LeafEnd
pub mod below
