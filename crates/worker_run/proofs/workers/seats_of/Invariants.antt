use Rattle.std.proofs.Common.{◌≡◌, ◌++◌, ◌+◌, ◌≤◌, map, vec_len, vec_capacity}
use Rattle.worker_run.proofs.workers.seats_of.Given as goal

abbrev pub invariant-loop-worker_states : goal.invariant-loop-worker_states
invariant-loop-worker_states g l = record {
  seats : map (λ d. d.seat) l.initial.worker_states.items ≡ l.seats.items ++ map (λ d. d.seat) l.worker_states.items;
  room : vec_len l.seats + vec_len l.worker_states ≤ vec_capacity l.seats;
}

abbrev pub decreases-loop-worker_states : goal.decreases-loop-worker_states
decreases-loop-worker_states g l = goal.left-loop-worker_states g l
