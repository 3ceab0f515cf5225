-- Re-exports from `whole_call` for the crates above.
pub use Rattle.whole_call.proofs.Calls.{gives_ends, silent_without_input, silent_without_memory, with_input, without_input, without_memory}
pub use Rattle.whole_call.proofs.Calls as Calls
