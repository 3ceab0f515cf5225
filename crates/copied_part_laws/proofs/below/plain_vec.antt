-- Re-exports from `plain_vec` for the crates above.
pub use Rattle.leaf_collections.proofs.below.plain_vec.{got_map, map_got}
pub use Rattle.leaf_collections.proofs.below.plain_vec.ListedSendSync as ListedSendSync
pub use Rattle.leaf_collections.proofs.below.plain_vec.ReservedVecSendSync as ReservedVecSendSync
