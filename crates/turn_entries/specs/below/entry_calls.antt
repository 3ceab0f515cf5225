-- Re-exports from `entry_calls` for the crates above.
pub use Rattle.entry_calls.specs.declared.calls.EntryCalls.{Ghosts as EntryCallsGhosts}
