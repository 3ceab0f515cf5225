pub mod JournalCounts
pub mod below
