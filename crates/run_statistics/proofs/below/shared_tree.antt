-- Re-exports from `shared_tree` for the crates above.
pub use Rattle.shared_tree.proofs.HandedOn.{for_memory, handed_on}
pub use Rattle.shared_tree.proofs.Joints.{before_same, fit_by, then_same}
