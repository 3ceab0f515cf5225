-- Re-exports from `path_laws` for the crates above.
pub use Rattle.path_laws.proofs.Leaves.{can_going}
