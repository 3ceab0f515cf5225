-- Re-exports from `plain_vec` for the crates above.
pub use Rattle.plain_vec.proofs.Members.{got_same, In, got_in, got_cases, got_past, in_append_right, in_append_left, got_within, same_view, in_append_cases, in_from_contains, got_other, got_front, got_back, view_step, contains_from_in}
pub use Rattle.plain_vec.proofs.Options.{none_some, some_none}
pub use Rattle.plain_vec.proofs.Places.{in_take, all_at, got_some, got_more, none_set}
