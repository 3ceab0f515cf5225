-- Re-exports from `heap_tree` for the crates above.
pub use Rattle.heap_tree.proofs.ChangeLemmas.{all, states_change}
pub use Rattle.heap_tree.proofs.tree.Tree.TheSendSync as TreeSendSync
