use Rattle.copying_gc.proofs.Common.{◌≡◌, Some, cell_of, place_in, put_object, with_chunks, FindsChunk, followed_ref}
use Rattle.copying_gc.proofs.Upto.{led_upto}
use Rattle.copying_gc.proofs.redirect.follow_object.Given as goal

abbrev pub invariant-loop-field : goal.invariant-loop-field
invariant-loop-field l = record {
  led : l.heap ≡ with_chunks l.fn.heap (put_object l.fn.heap.chunks l.object (led_upto (followed_ref l.fn.heap.chunks) l.field (cell_of l.fn.heap.chunks l.object)));
  place : place_in l.heap.chunks l.object.chunk ≡ Some l.place;
  known : FindsChunk l.near l.heap.chunks;
}
