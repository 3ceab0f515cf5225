mod Noted
mod MarkNotes
mod Idle
pub mod Sent
mod Common
