-- Re-exports from `ancestor_laws` for the crates above.
pub use Rattle.ancestor_laws.proofs.Trees.{IsLine, itself, through, child_above, up_cases, one_parent, no_root_parent, no_self, rooted_above}
pub use Rattle.ancestor_laws.proofs.Walks.{IsRooted, attached_rooted}
pub use Rattle.ancestor_laws.specs.Serial.{IsSerialOrder}
