use Rattle.copying_gc.proofs.Common.{◌≡◌, cell_at, put_cell, FindsChunk, followed_ref}
use Rattle.copying_gc.proofs.Upto.{led_upto}
use Rattle.copying_gc.proofs.redirect.follow_refs.Given as goal

abbrev pub invariant-loop-field : goal.invariant-loop-field
invariant-loop-field l = record {
  led : l.chunk ≡ record l.fn.chunk { cells = put_cell l.fn.chunk.cells l.at (led_upto (followed_ref l.heap.chunks) l.field (cell_at l.fn.chunk.cells l.at)) };
  known : FindsChunk l.near l.heap.chunks;
}
