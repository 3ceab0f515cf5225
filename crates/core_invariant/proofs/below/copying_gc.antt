-- Re-exports from `copying_gc` for the crates above.
pub use Rattle.copying_gc.proofs.FoundLemmas.{born_live}
pub use Rattle.copying_gc.proofs.LastChunk.{some_room}
pub use Rattle.copying_gc.proofs.Moves.{in_small, olds_small, small_ones}
pub use Rattle.copying_gc.proofs.Naming.{in_unreserved}
pub use Rattle.copying_gc.proofs.Needs.{needs_are_counted}
pub use Rattle.copying_gc.proofs.NewNumbers.{new_reverse, within_at}
pub use Rattle.copying_gc.proofs.Order.{first_in, firsts, in_first}
pub use Rattle.copying_gc.proofs.Packing.{used_led}
pub use Rattle.copying_gc.proofs.Rebuilt.{any_here, any_none, first_of, none_at}
pub use Rattle.copying_gc.proofs.Tidied.{all_tidy}
pub use Rattle.copying_gc.proofs.Moves as Moves
pub use Rattle.copying_gc.proofs.Naming as Naming
pub use Rattle.copying_gc.proofs.NewNumbers as NewNumbers
pub use Rattle.copying_gc.proofs.Rebuilt as Rebuilt
