pub mod Values
pub mod Parts
pub mod Next
pub mod Acts
pub mod First
pub mod below
mod Common
