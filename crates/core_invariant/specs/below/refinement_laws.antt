-- Re-exports from `refinement_laws` for the crates above.
pub use Rattle.refinement_laws.specs.Now.{IsReachedNow, StartsNow}
