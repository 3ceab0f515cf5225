-- Re-exports from `hh_lang` for the crates above.
pub use Rattle.core_invariant.proofs.below.hh_lang.ProgramSendSync as ProgramSendSync
