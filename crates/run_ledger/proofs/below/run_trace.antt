-- Re-exports from `run_trace` for the crates above.
pub use Rattle.run_trace.proofs.settings.Settings.TheSendSync as SettingsSendSync
