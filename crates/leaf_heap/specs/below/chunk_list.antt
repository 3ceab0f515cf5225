-- Re-exports from `chunk_list` for the crates above.
pub use Rattle.chunk_list.specs.View.{Level, seen_at}
