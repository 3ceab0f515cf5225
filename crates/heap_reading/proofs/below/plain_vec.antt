-- Re-exports from `plain_vec` for the crates above.
pub use Rattle.core_invariant.proofs.below.plain_vec.{In, contains_from_in, got_back, got_other, got_past, got_same, got_set, got_some, got_within, none_of, none_some, some_map}
