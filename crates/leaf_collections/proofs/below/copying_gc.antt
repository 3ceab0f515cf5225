-- Re-exports from `copying_gc` for the crates above.
pub use Rattle.core_invariant.proofs.below.copying_gc.{all_tidy, any_here, any_none, first_in, first_of, firsts, in_first, in_small, in_unreserved, needs_are_counted, new_reverse, none_at, olds_small, small_ones, some_room, used_led, within_at}
pub use Rattle.core_invariant.proofs.below.copying_gc.Moves as Moves
pub use Rattle.core_invariant.proofs.below.copying_gc.Naming as Naming
pub use Rattle.core_invariant.proofs.below.copying_gc.NewNumbers as NewNumbers
pub use Rattle.core_invariant.proofs.below.copying_gc.Rebuilt as Rebuilt
