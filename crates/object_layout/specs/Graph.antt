-- The graph of a heap: at which addresses objects are, and which of them refer to which.
use Rattle.std.specs.Prelude.{◌<◌, List, Option, Some, None, All, Contains, length}
use Rattle.object_layout.specs.declared.word.Addr.{Addr}
use Rattle.object_layout.specs.Cell.{IsBorn, chunk_words}
use Rattle.object_layout.specs.ChunkValue.{ChunkValue}
use Rattle.object_layout.specs.Chunks.{cell_of, chunk_position}

-- an object with its birth name is at this address of the heap
abbrev pub HasObjectAt : List ChunkValue → Addr → Type 0
HasObjectAt h a = IsBorn (cell_of h a).mark

-- a reference into the heap leads to an object there, at an address that a word can hold
abbrev pub IsSoundReference : List ChunkValue → Option Addr → Type 0
IsSoundReference h None = Unit {0}
IsSoundReference h (Some a) = chunk_position h a.chunk < length h → HasObjectAt h a × (a.offset < chunk_words)

-- each reference of each object of the heap does
abbrev pub HeapIsClosed : List ChunkValue → Type 0
HeapIsClosed h = (b : Addr) → HasObjectAt h b → All (IsSoundReference h) (cell_of h b).refs

-- the object at b refers to that at a
abbrev pub RefersTo : List ChunkValue → Addr → Addr → Type 0
RefersTo h b a = HasObjectAt h b × HasObjectAt h a × Contains (cell_of h b).refs (Some a)
