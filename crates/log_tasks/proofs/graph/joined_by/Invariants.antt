use Rattle.log_tasks.proofs.Common.{◌≡◌, ℕ, take, nat_eq, contains, joins}
use Rattle.log_tasks.proofs.graph.joined_by.Given as goal

abbrev pub invariant-loop-turn : goal.invariant-loop-turn
invariant-loop-turn l = (c : ℕ) → contains nat_eq l.joined c ≡ joins (take l.turn-index l.turns) c
