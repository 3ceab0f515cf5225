-- Re-exports from `plain_vec` for the crates above.
pub use Rattle.plain_vec.proofs.Members.{got_in, in_append_cases, in_append_left, in_append_right}
pub use Rattle.plain_vec.proofs.Places.{each_in, got_in_take, got_some, in_got, in_map, in_take_more, map_in, read_in, take_more_in}
