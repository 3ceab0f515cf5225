-- Re-exports from `frozen_views` for the crates above.
pub use Rattle.frozen_views.specs.PiecesValue.{NotesChanges, PiecesValue, ShowsChunks, written_chunk}
