-- Re-exports from `plain_vec` for the crates above.
pub use Rattle.refinement_laws.proofs.below.plain_vec.{In, all_from, and_not_parts, any_from_in, below_next, contains_from_in, each_from, each_in, flat_in, got_back, got_front, got_in, got_map, got_none, got_other, got_past, got_same, got_set, got_some, got_within, if_none, in_append_cases, in_append_left, in_append_right, in_flat, in_from_any, in_from_contains, in_from_kept, in_got, in_kept, in_map, in_take, map_got, map_in, none_is, none_of, none_some, or_false, read_in, same_truth, some_map, some_none, view_step}
pub use Rattle.refinement_laws.proofs.below.plain_vec.ListedSendSync as ListedSendSync
pub use Rattle.refinement_laws.proofs.below.plain_vec.ReservedVecSendSync as ReservedVecSendSync
