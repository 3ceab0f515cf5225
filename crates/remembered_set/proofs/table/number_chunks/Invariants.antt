use Rattle.remembered_set.proofs.Common.{◌≡◌, ◌==◌, ℕ, ◌+◌, ◌≤◌, take, nat_eq, contains, hash_set_len, spare, list_any, ChunkValue}
use Rattle.remembered_set.proofs.table.number_chunks.Given as goal

abbrev pub invariant-loop-chunk : goal.invariant-loop-chunk
invariant-loop-chunk l = record {
  few : hash_set_len l.numbers ≤ l.chunk-index;
  room : hash_set_len l.fn.numbers + spare l.fn.numbers ≤ hash_set_len l.numbers + spare l.numbers;
  known : (number : ℕ) → contains nat_eq l.numbers number ≡ list_any (λ (k : ChunkValue). k.number == number) (take l.chunk-index l.chunks);
}
