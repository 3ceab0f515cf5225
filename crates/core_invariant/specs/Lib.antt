pub mod Objects
pub mod SharedValue
pub mod Stands
pub mod WorkerPartFits
pub mod Next
pub mod Entered
pub mod Causes
pub mod Due
pub mod Roots
pub mod LeafBegin
pub mod Links
pub mod Again
pub mod Measured
pub mod below
mod Common
