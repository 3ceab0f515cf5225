-- Re-exports from `plain_vec` for the crates above.
pub use Rattle.plain_vec.proofs.Members.{In, contains_from_in, got_cases, got_front, got_in, got_within, in_append_cases, in_append_left, in_append_right, in_from_contains, in_from_kept, in_kept, same_view}
pub use Rattle.plain_vec.proofs.Numbers.{not_zero}
pub use Rattle.plain_vec.proofs.Options.{and_not_parts, none_is}
pub use Rattle.plain_vec.proofs.Places.{got_last, got_map, got_some, in_got, map_got}
