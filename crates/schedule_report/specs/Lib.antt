pub mod Schedules
pub mod Text
pub mod Laws
pub mod below
