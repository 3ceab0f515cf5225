-- Re-exports from `core_invariant` for the crates above.
pub use Rattle.copied_part_laws.specs.below.core_invariant.{SharedValue, accounts, without_journal}
