-- Re-exports from `run_trace` for the crates above.
pub use Rattle.refinement_laws.proofs.below.run_trace.SettingsSendSync as SettingsSendSync
