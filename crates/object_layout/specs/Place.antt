-- Objects, and holes, by their offsets.
use Rattle.std.specs.Prelude.{ℕ, zero, suc, ◌+◌, ◌-◌, ◌≤◌, List, [], ◌∷◌, nat_le, if◌then◌else◌}
use Rattle.object_layout.specs.Cell.{Cell, IsObject, as_object, no_cell, size_of}

-- how many words these objects and holes take
abbrev pub words_in : List Cell → ℕ
words_in [] = 0
words_in (c ∷ cs) = size_of c + words_in cs

-- an object, or a hole, begins at this offset
abbrev pub IsCellAt : List Cell → ℕ → Type 0
IsCellAt [] at = ⊥
IsCellAt (c ∷ cs) zero = Unit {0}
IsCellAt (c ∷ cs) (suc n) = (size_of c ≤ suc n) × IsCellAt cs (suc n - size_of c)

-- the object, or the hole, that begins at this offset; no object if neither does
abbrev pub cell_at : List Cell → ℕ → Cell
cell_at [] at = no_cell
cell_at (c ∷ cs) zero = c
cell_at (c ∷ cs) (suc n) = if nat_le (size_of c) (suc n) then cell_at cs (suc n - size_of c) else no_cell

-- an object is at this offset
abbrev pub IsObjectAt : List Cell → ℕ → Type 0
IsObjectAt cs at = IsObject (cell_at cs at).mark

-- the object at this offset; no object if there is none, or a hole
abbrev pub object_at : List Cell → ℕ → Cell
object_at cs at = as_object (cell_at cs at)

-- the cells with another one in place of the one at this offset, if one begins there
abbrev pub put_cell : List Cell → ℕ → Cell → List Cell
put_cell [] at d = []
put_cell (c ∷ cs) zero d = d ∷ cs
put_cell (c ∷ cs) (suc n) d = c ∷ (if nat_le (size_of c) (suc n) then put_cell cs (suc n - size_of c) d else cs)

-- the cells from this offset on
abbrev pub cells_from : List Cell → ℕ → List Cell
cells_from cs zero = cs
cells_from [] (suc n) = []
cells_from (c ∷ cs) (suc n) = if nat_le (size_of c) (suc n) then cells_from cs (suc n - size_of c) else []
