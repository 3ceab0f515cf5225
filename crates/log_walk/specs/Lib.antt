pub mod Walking
pub mod Places
pub mod Tables
pub mod Value
pub mod Meetings
mod Common
