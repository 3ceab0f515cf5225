pub mod Trees
pub mod Walks
pub mod Meetings
pub mod CutRuns
pub mod Span
pub mod Serial
pub mod Blocks
mod Common
