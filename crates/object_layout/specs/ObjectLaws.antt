-- What is read as the objects of chunks, and how changes affect it.
use Rattle.std.specs.Prelude.{◌≡◌, ◌↔◌, Bool, true, List, [], ◌∷◌, ◌++◌, Option, Contains, filter, map}
use Rattle.object_layout.specs.declared.word.Addr.{Addr}
use Rattle.object_layout.specs.declared.word.Birth.{Birth}
use Rattle.object_layout.specs.Cell.{Born, Cell, size_of}
use Rattle.object_layout.specs.ChunkValue.{ChunkValue}
use Rattle.object_layout.specs.Place.{words_in}
use Rattle.object_layout.specs.Chunks.{cell_of, put_object, HaveDistinctNumbers}
use Rattle.object_layout.specs.Objects.{Located, changed_at, led_chunk, led_object, located, objects_in, objects_of, sifted}

-- the object is at its address
pub record LiesThere (ks : List ChunkValue) (o : Located) : Type 0 where
  pub mark : (cell_of ks o.at).mark ≡ Born o.birth
  pub is : o ≡ located o.at.chunk o.at.offset o.birth (cell_of ks o.at)

-- the objects that are read are exactly those at the chunks' addresses
abbrev pub ObjectsLieThere : Type 0
ObjectsLieThere = (ks : List ChunkValue) → HaveDistinctNumbers ks → (o : Located) → Contains (objects_in ks) o ↔ LiesThere ks o

-- an object appended comes after the others of its chunk
abbrev pub AppendedIsLast : Type 0
AppendedIsLast =
    (k : ChunkValue) (c : Cell) (b : Birth) → c.mark ≡ Born b
    → objects_of (record k { cells = k.cells ++ c ∷ [] }) ≡ objects_of k ++ located k.number (words_in k.cells) b c ∷ []

-- if a cell is replaced by one of the same mark and size, only the fields of the object there change
abbrev pub PutChangesOne : Type 0
PutChangesOne =
    (ks : List ChunkValue) (a : Addr) (d : Cell) → HaveDistinctNumbers ks → (cell_of ks a).mark ≡ d.mark → size_of (cell_of ks a) ≡ size_of d
    → map objects_of (put_object ks a d) ≡ map (map (changed_at a d)) (map objects_of ks)

-- a sweep leaves exactly the objects whose addresses are kept
abbrev pub SiftedAreFiltered : Type 0
SiftedAreFiltered = (keep : Addr → Bool) (k : ChunkValue) → objects_of (sifted keep k) ≡ filter (λ o. keep o.at) (objects_of k)

-- updated references are read as updated
abbrev pub LedAreRead : Type 0
LedAreRead = (f : Option Addr → Option Addr) (k : ChunkValue) → objects_of (led_chunk f k) ≡ map (led_object f) (objects_of k)
