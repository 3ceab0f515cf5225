pub mod Drops
mod Within
pub mod Paced
pub mod Words
pub mod Since
pub mod OwedEntries
pub mod Asked
pub mod Counted
pub mod Fewer
mod OfNames
pub mod Waiters
pub mod History
mod Forked
pub mod Accepted
pub mod PaceLaw
pub mod KeptNames
mod Common
