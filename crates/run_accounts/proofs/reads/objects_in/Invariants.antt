use Rattle.run_accounts.proofs.Common.{◌≡◌, ◌+◌, drop, length, flat_map, held_in}
use Rattle.run_accounts.proofs.reads.objects_in.Given as goal

abbrev pub invariant-loop-names : goal.invariant-loop-names
invariant-loop-names l = l.objects + length (flat_map (λ ns. ns) (drop l.names-index l.heap.chunks)) ≡ length (held_in l.heap)
