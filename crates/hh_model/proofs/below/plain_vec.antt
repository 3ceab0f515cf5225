-- Re-exports from `plain_vec` for the crates above.
pub use Rattle.hh_lang.proofs.below.plain_vec.{In, got_cases, got_within, same_view, in_from_contains, contains_from_in, got_same, got_other, got_past, got_front, got_back, none_some, none_set, got_some}
