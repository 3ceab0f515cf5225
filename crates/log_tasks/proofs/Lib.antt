pub mod Acts
pub mod Puts
pub mod Lines
pub mod Known
pub mod Accepted
pub mod Sane
pub mod Ascending
pub mod Spawning
pub mod ToldRows
pub mod Joining
pub mod TaskEnds
pub mod FirstFault
pub mod Nested
pub mod Log
pub mod FileOrder
mod Noted
mod Common
