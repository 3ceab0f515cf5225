-- What is noted of waiting heaps: roots, snapshots, marks.
pub mod Roots
pub mod Rooted
pub mod MarksGoOn
pub mod Snapshot
pub mod Notes
