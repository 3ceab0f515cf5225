-- Re-exports from `or_no_memory` for the crates above.
pub use Rattle.run_journal.specs.below.or_no_memory.{Reports}
