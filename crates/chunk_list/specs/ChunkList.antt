-- Chunks in a list, with spare capacity.
use Rattle.std.specs.Prelude.{ℕ, List}
use Rattle.object_layout.specs.ChunkValue.{ChunkValue}

-- the chunks, and the spare capacity
pub record ChunkListValue : Type 0 where
  pub items : List ChunkValue
  pub places : ℕ
