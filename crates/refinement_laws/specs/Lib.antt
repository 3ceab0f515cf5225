pub mod Now
pub mod First
pub mod EntryLaws
pub mod WorkerLaws
pub mod CopyLaws
pub mod below
mod Common
