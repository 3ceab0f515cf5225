pub mod View
pub mod ChunkList
pub mod RowLends
pub mod below
