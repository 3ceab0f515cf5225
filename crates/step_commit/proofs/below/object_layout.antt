-- Re-exports from `object_layout` for the crates above.
pub use Rattle.core_invariant.proofs.below.object_layout.{apart_together, found_any, has_append, is_same, same_is}
