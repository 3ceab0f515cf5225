use Rattle.ledger_heaps.proofs.Common.{◌≡◌, ℕ, ◌<◌, true, slice_get, held_in, or_fresh}
use Rattle.ledger_heaps.proofs.Owned.{owns}
use Rattle.ledger_heaps.proofs.owners.are_owned.Given as goal

abbrev pub invariant-loop-task : goal.invariant-loop-task
invariant-loop-task l = (u : ℕ) → u < l.task → owns l.machine.tasks u (held_in (or_fresh (slice_get l.heaps u))) ≡ true
