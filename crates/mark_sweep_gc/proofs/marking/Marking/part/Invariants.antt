use Rattle.mark_sweep_gc.proofs.Common.{◌≡◌, ◌++◌, ◌≤◌, ◌+◌, length, filter, map, take, vec_len, vec_capacity, counted32, unit_count, goes, stays, swept_chunk, AreGiven}
use Rattle.mark_sweep_gc.proofs.marking.Marking.part.Given as goal

abbrev pub invariant-loop-chunk : goal.invariant-loop-chunk
invariant-loop-chunk l = record {
  taken : l.yielded ≡ take (length l.yielded) l.fn.chunks.items;
  left : l.left.items ≡ l.fn.left.items ++ map (swept_chunk l.self.found) (filter (stays l.self.found l.reserved) l.yielded);
  pool : AreGiven l.fn.pool l.pool (filter (goes l.self.found l.reserved) l.yielded);
  units : l.units ≡ counted32 (unit_count (filter (goes l.self.found l.reserved) l.yielded));
  count : vec_len l.left ≤ vec_len l.fn.left + length l.yielded;
  capacity : vec_capacity l.left ≡ vec_capacity l.fn.left;
}
