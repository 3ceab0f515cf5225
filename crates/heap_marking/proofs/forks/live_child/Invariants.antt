use Rattle.heap_marking.proofs.Common.{◌≡◌, ◌<◌, ℕ, false, is_live_child}
use Rattle.heap_marking.proofs.forks.live_child.Given as goal

abbrev pub invariant-loop-child : goal.invariant-loop-child
invariant-loop-child l = (k : ℕ) → k < l.child → is_live_child l.tree l.t k ≡ false
