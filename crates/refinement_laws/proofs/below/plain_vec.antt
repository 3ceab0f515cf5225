-- Re-exports from `plain_vec` for the crates above.
pub use Rattle.refinement.proofs.below.plain_vec.{none_of, contains_from_in, got_other, got_set, none_some, got_same, map_in, any_from_in, in_from_any, in_map, all_at, in_got, in_append_cases, in_append_left, in_append_right, each_from, got_within, none_is, read_in, In, all_from, and_not_parts, below_next, each_in, flat_in, got_back, got_front, got_in, got_map, got_none, got_past, got_some, if_none, in_flat, in_from_contains, in_from_kept, in_kept, in_take, map_got, or_false, same_truth, some_map, some_none, view_step}
pub use Rattle.refinement.proofs.below.plain_vec.ListedSendSync as ListedSendSync
pub use Rattle.refinement.proofs.below.plain_vec.ReservedVecSendSync as ReservedVecSendSync
