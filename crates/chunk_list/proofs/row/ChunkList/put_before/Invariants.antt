use Rattle.chunk_list.proofs.Common.{◌≡◌, ◌+◌, ◌≤◌, ◌++◌, vec_len}
use Rattle.chunk_list.proofs.row.ChunkList.put_before.Given as goal

abbrev pub invariant-loop-chunk : goal.invariant-loop-chunk
invariant-loop-chunk l = record {
  all : l.more.items ++ l.self.items ≡ l.fn.more.items ++ l.fn.self.items;
  room : vec_len l.more ≤ l.self.places;
  places : l.fn.self.places + vec_len l.more ≤ l.self.places + vec_len l.fn.more;
}

abbrev pub decreases-loop-chunk : goal.decreases-loop-chunk
decreases-loop-chunk l = vec_len l.more
