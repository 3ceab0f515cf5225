-- Re-exports from `hh_lang` for the crates above.
pub use Rattle.refinement.proofs.below.hh_lang.ProgramSendSync as ProgramSendSync
