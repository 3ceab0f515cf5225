-- The objects of chunks as they are read at their addresses: in order, without holes and moved objects.
use Rattle.std.specs.Prelude.{ℕ, ℤ, ◌+◌, Bool, true, false, List, [], ◌∷◌, Option, map, if◌then◌else◌}
use Rattle.std.specs.List.{flat_map}
use Rattle.object_layout.specs.declared.word.Addr.{Addr}
use Rattle.object_layout.specs.declared.word.Birth.{Birth}
use Rattle.object_layout.specs.Cell.{Born, Cell, Hole, Mark, Moved, size_of, with_mark}
use Rattle.object_layout.specs.Chunks.{same_address}
use Rattle.object_layout.specs.ChunkValue.{ChunkValue}

-- an object: its address, its birth name, whether it is mutable, its references and its numbers
pub record Located : Type 0 where
  pub at : Addr
  pub birth : Birth
  pub mutable : Bool
  pub refs : List (Option Addr)
  pub ints : List ℤ

-- a cell with a birth name, at an offset of the chunk of this number
abbrev pub located : ℕ → ℕ → Birth → Cell → Located
located number at b c = record { at = record { chunk = number; offset = at }; birth = b; mutable = c.mutable; refs = c.refs; ints = c.ints }

-- a cell in front of the others, if it has its birth name
abbrev pub located_by : ℕ → ℕ → Cell → Mark → List Located → List Located
located_by number at c (Born b) os = located number at b c ∷ os
located_by number at c (Moved to) os = os
located_by number at c Hole os = os

-- the objects of these cells, the first of which begins at an offset of the chunk of this number
abbrev pub objects_from : ℕ → ℕ → List Cell → List Located
objects_from number at [] = []
objects_from number at (c ∷ cs) = located_by number at c c.mark (objects_from number (at + size_of c) cs)

-- the objects of a chunk, and of a list of chunks
abbrev pub objects_of : ChunkValue → List Located
objects_of k = objects_from k.number 0 k.cells

abbrev pub objects_in : List ChunkValue → List Located
objects_in ks = flat_map objects_of ks

-- ---- how changes affect them

-- the object at an address with the fields of a cell; any other unchanged
abbrev pub with_fields : Cell → Located → Located
with_fields d o = record o { mutable = d.mutable; refs = d.refs; ints = d.ints }

abbrev pub changed_at : Addr → Cell → Located → Located
changed_at a d o = if same_address o.at a then with_fields d o else o

-- each reference of a cell, of a chunk's cells and of an object updated
abbrev pub led_cell : (Option Addr → Option Addr) → Cell → Cell
led_cell f c = record c { refs = map f c.refs }

abbrev pub led_chunk : (Option Addr → Option Addr) → ChunkValue → ChunkValue
led_chunk f k = record k { cells = map (led_cell f) k.cells }

abbrev pub led_object : (Option Addr → Option Addr) → Located → Located
led_object f o = record o { refs = map f o.refs }

-- a cell that is kept stays; any other becomes a hole of its words
abbrev pub swept_cell : Bool → Cell → Cell
swept_cell true c = c
swept_cell false c = with_mark c Hole

-- cells of a chunk, the first of them at an offset, of which exactly those are kept whose addresses are
abbrev pub sifted_cells : (Addr → Bool) → ℕ → ℕ → List Cell → List Cell
sifted_cells keep number at [] = []
sifted_cells keep number at (c ∷ cs) = swept_cell (keep (record { chunk = number; offset = at })) c ∷ sifted_cells keep number (at + size_of c) cs

abbrev pub sifted : (Addr → Bool) → ChunkValue → ChunkValue
sifted keep k = record k { cells = sifted_cells keep k.number 0 k.cells }
