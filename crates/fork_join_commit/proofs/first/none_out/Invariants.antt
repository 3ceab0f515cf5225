use Rattle.std.proofs.Common.{◌≡◌, replicate, None}
use Rattle.fork_join_commit.proofs.first.none_out.Given as goal

abbrev pub invariant-loop : goal.invariant-loop
invariant-loop l = l.tasks_out ≡ replicate l.counter None
