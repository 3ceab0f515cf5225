-- Re-exports from `plain_vec` for the crates above.
pub use Rattle.core_invariant.proofs.below.plain_vec.{all_from, any_from_in, contains_from_in, got_back, got_front, got_none, got_other, got_past, got_same, got_set, got_some, got_within, in_append_cases, in_append_left, in_append_right, in_from_contains, in_map, map_in, none_some, same_truth}
