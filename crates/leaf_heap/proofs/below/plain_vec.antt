-- Re-exports from `plain_vec` for the crates above.
pub use Rattle.plain_vec.proofs.Members.{got_other, got_same}
pub use Rattle.plain_vec.proofs.Places.{got_item, got_map}
