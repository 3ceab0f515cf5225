mod Views
mod Keeps
mod SplitJoin
pub mod SeatLists
pub mod Laws
mod Common
