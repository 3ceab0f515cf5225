use Rattle.heap_image.proofs.Common.{◌≡◌, ◌++◌, take, flat_map, chunk_line}
use Rattle.heap_image.proofs.text.add_chunks.Given as goal

abbrev pub invariant-loop-chunk : goal.invariant-loop-chunk
invariant-loop-chunk l = l.text.items ≡ l.fn.text.items ++ flat_map chunk_line (take l.chunk-index l.chunks)
