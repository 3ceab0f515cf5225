pub mod CellAccess
pub mod Order
pub mod AccessStack
pub mod Scan
pub mod Cell
pub mod Laws
