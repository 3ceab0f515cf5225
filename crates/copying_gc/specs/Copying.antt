-- The steps by which survivors are copied.
use Rattle.std.specs.Prelude.{◌≡◌, true, List, [], ◌∷◌, ◌++◌, if◌then◌else◌}
use Rattle.copying_gc.specs.Common.{Born, Cell, IsObject, Moved, size_of, with_mark, ChunkValue, cell_of, put_object}
use Rattle.copying_gc.specs.declared.lists.Survivor.{Survivor}
use Rattle.copying_gc.specs.Survivors.{with_chunks}
use Rattle.copying_gc.specs.Laid.{ObjectFits, is_moved, next_place, opened, placed_behind}
use Rattle.copying_gc.specs.CollectorValue.{CollectorValue}

-- the copy of an object: with its name again
abbrev pub survivor_cell : List ChunkValue → Survivor → Cell
survivor_cell h s = with_mark (cell_of h s.old) (Born s.birth)

-- an object was copied into the last new chunk, with its new address left in its old place
abbrev pub copied_last : CollectorValue → Survivor → CollectorValue
copied_last c s = record c {
  heap = with_chunks c.heap (put_object c.heap.chunks s.old (with_mark (cell_of c.heap.chunks s.old) (Moved (next_place c.laying.laid))));
  laying = record c.laying { laid = placed_behind c.laying.laid (survivor_cell c.heap.chunks s) };
  moved = c.moved ++ (s.old, next_place c.laying.laid) ∷ [];
}

-- if the last one has no room for it, into the next
abbrev pub copied_one : CollectorValue → Survivor → CollectorValue
copied_one c s = copied_last (record c { laying = opened c.laying (size_of (cell_of c.heap.chunks s.old)) }) s

-- the same for a small object; a large one stays
abbrev pub copied : CollectorValue → Survivor → CollectorValue
copied c s = if is_moved c.heap.chunks s.old then copied_one c s else c

-- each of these is in the old heap, and fits if it is small
abbrev pub CanBeCopied : CollectorValue → List Survivor → Type 0
CanBeCopied c [] = Unit {0}
CanBeCopied c (s ∷ ss) =
    (IsObject (cell_of c.heap.chunks s.old).mark × (is_moved c.heap.chunks s.old ≡ true → ObjectFits c.laying (size_of (cell_of c.heap.chunks s.old))))
    × CanBeCopied (copied c s) ss
