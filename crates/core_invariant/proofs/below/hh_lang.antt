-- Re-exports from `hh_lang` for the crates above.
pub use Rattle.refinement_laws.proofs.below.hh_lang.ProgramSendSync as ProgramSendSync
