use Rattle.worker_run.proofs.Common.{◌≡◌, ◌+◌, vec_len, ℕ, ◌++◌, map, slice_get, Some, length, Hand, thefts, AreNewWorkerStates}
use Rattle.worker_run.proofs.workers.worker_states_of.Given as goal

abbrev pub invariant-loop-alloc : goal.invariant-loop-alloc
invariant-loop-alloc g l = record {
  seats : map (λ d. d.seat) l.worker_states.items ++ l.seats.items ≡ l.initial.seats.items;
  new : AreNewWorkerStates l.settings l.worker_states.items;
  held : map (λ d. d.hand) l.worker_states.items ++ l.hands.items ≡ l.initial.hands.items;
  hands : (k : ℕ) (h : Hand) → slice_get l.hands.items k ≡ Some h → length (thefts h) ≡ l.settings.workers;
  worker : l.worker ≡ length l.worker_states.items;
  room : vec_len l.hands ≡ vec_len l.seats;
  few : l.worker + vec_len l.seats ≡ l.settings.workers;
}

abbrev pub decreases-loop-alloc : goal.decreases-loop-alloc
decreases-loop-alloc g l = length l.seats.items
