use Rattle.frozen_views.proofs.Common.{◌≡◌, ℕ, map, arc_value, vec_len, nearest}
use Rattle.frozen_views.proofs.pieces.shorten.Given as goal

abbrev pub invariant-loop-alloc : goal.invariant-loop-alloc
invariant-loop-alloc l = (n : ℕ) → nearest (map arc_value l.layers.items) n ≡ nearest (map arc_value l.fn.layers.items) n

abbrev pub decreases-loop-alloc : goal.decreases-loop-alloc
decreases-loop-alloc l = vec_len l.layers
