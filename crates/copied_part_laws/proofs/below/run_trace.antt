-- Re-exports from `run_trace` for the crates above.
pub use Rattle.leaf_collections.proofs.below.run_trace.SettingsSendSync as SettingsSendSync
