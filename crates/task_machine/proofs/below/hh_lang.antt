-- Re-exports from `hh_lang` for the crates above.
pub use Rattle.hh_lang.proofs.program.Program.TheSendSync as ProgramSendSync
