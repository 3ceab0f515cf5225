pub mod Quoted
pub mod Guarded
pub mod Balanced
pub mod Labels
