-- A cached position of a chunk.
use Rattle.std.specs.Prelude.{◌≡◌, List}
use Rattle.copying_gc.specs.Common.{ChunkValue, place_in}
use Rattle.copying_gc.specs.declared.near.Near.{Near}

-- the chunk of this number has this position among the chunks; there is no position if no chunk has the number
abbrev pub FindsChunk : Near → List ChunkValue → Type 0
FindsChunk near ks = place_in ks near.number ≡ near.place
