use Rattle.heap_picture.proofs.Common.{◌≡◌, map, take, drawn_chunk}
use Rattle.heap_picture.proofs.parts.draw_chunks.Given as goal

abbrev pub invariant-loop-chunk : goal.invariant-loop-chunk
invariant-loop-chunk l = l.chunks ≡ map drawn_chunk (take l.chunk-index l.in_use)
