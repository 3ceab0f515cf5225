use Rattle.chunk_list.proofs.Common.{◌≡◌, vec_len}
use Rattle.chunk_list.proofs.row.empty_chunks.Given as goal

abbrev pub invariant-loop : goal.invariant-loop
invariant-loop l = vec_len l.chunks ≡ l.counter
