-- What is noted of waiting heaps after an entry, what is marked of them, and collections that have begun.
pub mod SnapshotNow
pub mod NotesAhead
pub mod AllNotes
pub mod Begun
pub mod RanBegun
pub mod MarksAll
