-- Re-exports from `heap_marking` for the crates above.
pub use Rattle.heap_marking.proofs.ForksTold.{entered_accounts}
