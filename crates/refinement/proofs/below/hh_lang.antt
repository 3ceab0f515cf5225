-- Re-exports from `hh_lang` for the crates above.
pub use Rattle.task_machine.proofs.below.hh_lang.ProgramSendSync as ProgramSendSync
