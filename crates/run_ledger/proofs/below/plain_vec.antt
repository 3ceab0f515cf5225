-- Re-exports from `plain_vec` for the crates above.
pub use Rattle.plain_vec.proofs.Members.{In, any_from_in, contains_from_in, flat_in, got_back, got_cases, got_front, got_in, got_other, got_past, got_same, got_within, in_append_cases, in_append_left, in_append_right, in_flat, in_from_any, in_from_contains, in_from_kept, in_kept, same_view, view_step}
pub use Rattle.plain_vec.proofs.Numbers.{below_next}
pub use Rattle.plain_vec.proofs.Options.{and_not_parts, if_none, none_is, none_of, none_some, or_false, same_truth, some_map, some_none}
pub use Rattle.plain_vec.proofs.Places.{all_at, all_from, each_from, each_in, got_map, got_none, got_set, got_some, in_got, in_map, in_take, map_got, map_in, read_in}
pub use Rattle.plain_vec.proofs.list.Listed.TheSendSync as ListedSendSync
pub use Rattle.plain_vec.proofs.reserved_vec.ReservedVec.TheSendSync as ReservedVecSendSync
