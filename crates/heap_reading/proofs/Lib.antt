pub mod IdleTasks
pub mod KeptNames
pub mod ObjectsRead
pub mod TreeNow
pub mod InOrder
pub mod LiveRead
pub mod FieldsRead
pub mod below
mod Common
