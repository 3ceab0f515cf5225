pub mod Names
pub mod Kinds
pub mod HeapTotals
pub mod Drawn
pub mod Overview
pub mod Graph
pub mod Laws
pub mod Pieces
pub mod below
mod Common
