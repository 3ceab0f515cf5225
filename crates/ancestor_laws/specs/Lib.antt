pub mod Meeting
pub mod Serial
pub mod Span
pub mod CutRuns
pub mod Blocks
mod Common
