-- The immutable objects of a chunk, each with its offset.
use Rattle.std.specs.Prelude.{ℕ, ◌+◌, ◌==◌, Bool, false, not, List, [], ◌∷◌, Option, Some, None, if◌then◌else◌, map}
use Rattle.object_layout.specs.Cell.{Born, Cell, Hole, Mark, Moved, no_cell, size_of}
use Rattle.object_layout.specs.ChunkValue.{ChunkValue}

-- an object with its birth name is immutable unless it may be written
abbrev pub lasts : Mark → Bool → Bool
lasts (Born b) mutable = not mutable
lasts (Moved to) mutable = false
lasts Hole mutable = false

-- an immutable object with its birth name
abbrev pub is_frozen : Cell → Bool
is_frozen c = lasts c.mark c.mutable

-- the immutable objects of these cells, the first of which begins at an offset, each with its own offset
abbrev pub frozen_from : ℕ → List Cell → List (ℕ × Cell)
frozen_from at [] = []
frozen_from at (c ∷ cs) = if is_frozen c then (at, c) ∷ frozen_from (at + size_of c) cs else frozen_from (at + size_of c) cs

-- the immutable objects of a chunk, and the chunk's number
pub record PieceValue : Type 0 where
  pub number : ℕ
  pub objects : List (ℕ × Cell)

abbrev pub frozen_of : ChunkValue → PieceValue
frozen_of k = record { number = k.number; objects = frozen_from 0 k.cells }

-- the offsets of the immutable objects of these cells, the first cell at an offset
abbrev pub starts_from : ℕ → List Cell → List ℕ
starts_from at cs = map (λ o. o.0) (frozen_from at cs)

abbrev pub starts_in : List Cell → List ℕ
starts_in cs = starts_from 0 cs

-- the one of these objects that begins at an offset
abbrev pub frozen_at : List (ℕ × Cell) → ℕ → Option Cell
frozen_at [] offset = None
frozen_at (o ∷ os) offset = if o.0 == offset then Some o.1 else frozen_at os offset

-- an object, or none
abbrev pub or_no_cell : Option Cell → Cell
or_no_cell None = no_cell
or_no_cell (Some c) = c
