-- Re-exports from `run_trace` for the crates above.
pub use Rattle.refinement.proofs.below.run_trace.SettingsSendSync as SettingsSendSync
