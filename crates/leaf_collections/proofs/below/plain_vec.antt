-- Re-exports from `plain_vec` for the crates above.
pub use Rattle.core_invariant.proofs.below.plain_vec.{none_some, all_from, contains_from_in, flat_in, got_in, got_map, got_other, got_set, if_none, in_append_cases, in_append_left, in_append_right, in_flat, in_from_any, in_from_contains, in_from_kept, in_kept, in_map, map_got, map_in, or_false, read_in, none_of}
pub use Rattle.core_invariant.proofs.below.plain_vec.ListedSendSync as ListedSendSync
pub use Rattle.core_invariant.proofs.below.plain_vec.ReservedVecSendSync as ReservedVecSendSync
