-- Re-exports from `plain_vec` for the crates above.
pub use Rattle.plain_vec.proofs.Members.{In, contains_from_in, got_in, got_same, in_append_cases, in_from_contains, same_view}
pub use Rattle.plain_vec.proofs.Options.{none_is}
pub use Rattle.plain_vec.proofs.Places.{all_at, got_more, in_got, in_map, map_in}
