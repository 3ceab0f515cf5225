-- What is checked of the objects of a heap.
use Rattle.std.specs.Prelude.{List, All}
use Rattle.object_layout.specs.Cell.{Cell, IsBorn}
use Rattle.object_layout.specs.ChunkValue.{ChunkValue}
use Rattle.copying_gc.specs.Survivors.{IsSoundReference}

-- the references of an object lead to objects of the heap
abbrev pub HasSoundReferences : List ChunkValue → Cell → Type 0
HasSoundReferences h c = IsBorn c.mark → All (IsSoundReference h) c.refs
