use Rattle.leaf_heap.proofs.Common.{◌≡◌, ℕ, ◌+◌, ◌-◌, ◌≤◌, take, nat_eq, option_map, option_or, get, hash_map_len, spare, place_in}
use Rattle.leaf_heap.proofs.exchange.index_chunks.Given as goal

abbrev pub invariant-loop-i : goal.invariant-loop-i
invariant-loop-i l = record {
  places : (number : ℕ) → get nat_eq l.table number ≡ option_or (option_map (λ j. l.base - j) (place_in (take l.i l.chunks) number)) (get nat_eq l.fn.table number);
  each : hash_map_len l.table ≡ hash_map_len l.fn.table + l.i;
  room : spare l.fn.table ≤ spare l.table + l.i;
}
