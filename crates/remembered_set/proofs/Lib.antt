mod MovedLemmas
mod SourceLemmas
pub mod Noting
pub mod LiftLemmas
mod RewriteLemmas
mod Common
