use Rattle.copying_gc.proofs.Common.{◌≡◌, ◌-◌, ◌<◌, ◌≤◌, IsCellAt, FindsChunk, followed_ref}
use Rattle.copying_gc.proofs.FollowLemmas.{led_before}
use Rattle.copying_gc.proofs.redirect.follow_chunk.Given as goal

abbrev pub invariant-loop-at : goal.invariant-loop-at
invariant-loop-at l = record {
  chunk : l.chunk ≡ record l.fn.chunk { cells = led_before (followed_ref l.heap.chunks) l.fn.chunk.cells l.at };
  within : l.at ≤ l.used;
  begins : l.at < l.used → IsCellAt l.fn.chunk.cells l.at;
  known : FindsChunk l.near l.heap.chunks;
}

abbrev pub decreases-loop-at : goal.decreases-loop-at
decreases-loop-at l = l.used - l.at
