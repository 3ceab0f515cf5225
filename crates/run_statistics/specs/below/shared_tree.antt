-- Re-exports from `shared_tree` for the crates above.
pub use Rattle.shared_tree.specs.contracts.shared.Shared as SharedContracts
