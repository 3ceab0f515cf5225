-- The whole relation after each entry, with the tree and the counts.
pub mod Journals
pub mod Together
pub mod Counts
pub mod Past
pub mod RanPast
pub mod RunsOn
pub mod HandedBack
pub mod RanCounts
pub mod RanWhole
pub mod TasksOut
pub mod EntriesWhole
pub mod DoneReturns
