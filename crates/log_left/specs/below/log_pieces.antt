-- Re-exports from `log_pieces` for the crates above.
pub use Rattle.log_pieces.specs.Pieces.{events_of_pieces}
