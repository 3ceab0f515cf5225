-- Re-exports from `plain_vec` for the crates above.
pub use Rattle.heap_reading.proofs.below.plain_vec.{got_other, got_same, got_some, got_within, none_of, none_some, some_map}
