-- Re-exports from `program_make` for the crates above.
pub use Rattle.program_make.proofs.Lengths.{made_are_short}
