pub mod Entry
pub mod Settings
pub mod Line
pub mod Trace
pub mod TraceLaw
pub mod below
