-- The final value of a list of chunks of which a `&mut` to one is returned.
use Rattle.std.specs.Prelude.{ℕ, slice_set}
use Rattle.std.specs.Borrow.{Fml, Lends, MutBor}
use Rattle.object_layout.specs.ChunkValue.{ChunkValue}
use Rattle.object_layout.specs.contracts.chunk.Chunk.{the_row as chunk_row}
use Rattle.chunk_list.specs.ChunkList.{ChunkListValue}
use Rattle.chunk_list.specs.contracts.row.ChunkList.{the_row}

-- once the borrow r ends, the chunk at this position is the last one written through r
abbrev pub lends_chunk : MutBor ChunkListValue → ℕ → MutBor ChunkValue → Fml
lends_chunk s place r = Lends the_row chunk_row s r (λ k. record s.now { items = slice_set s.now.items place k })
