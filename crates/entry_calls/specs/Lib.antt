pub mod Blocks
pub mod Calls
pub mod Ends
pub mod Owed
pub mod PartLends
pub mod Ran
pub mod below
