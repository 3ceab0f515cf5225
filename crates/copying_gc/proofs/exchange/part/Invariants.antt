use Rattle.copying_gc.proofs.Common.{◌≡◌, false, [], ◌++◌, ◌≤◌, ◌+◌, length, filter, map, vec_len, vec_capacity, emptied, goes, stays}
use Rattle.copying_gc.proofs.exchange.part.Given as goal

abbrev pub invariant-loop-chunk : goal.invariant-loop-chunk
invariant-loop-chunk l = record {
  laid : l.laid.items ≡ l.fn.laid.items ++ filter stays l.yielded;
  back : l.back.items ≡ l.fn.back.items ++ map emptied (filter goes l.yielded);
  laid_count : vec_len l.laid ≤ vec_len l.fn.laid + length l.yielded;
  back_count : vec_len l.back ≤ vec_len l.fn.back + length l.yielded;
  laid_length : length l.laid.items ≤ length l.fn.laid.items + length l.yielded;
  laid_room : vec_capacity l.laid ≡ vec_capacity l.fn.laid;
  back_room : vec_capacity l.back ≡ vec_capacity l.fn.back;
  none : l.any ≡ false → filter stays l.yielded ≡ [];
}
