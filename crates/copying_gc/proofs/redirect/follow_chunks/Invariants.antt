use Rattle.copying_gc.proofs.Common.{◌≡◌, ◌++◌, take, drop, map, followed_ref, led_chunk}
use Rattle.copying_gc.proofs.redirect.follow_chunks.Given as goal

abbrev pub invariant-loop-chunk : goal.invariant-loop-chunk
invariant-loop-chunk l = l.chunks ≡ map (led_chunk (followed_ref l.heap.chunks)) (take l.chunk-index l.fn.chunks) ++ drop l.chunk-index l.fn.chunks
