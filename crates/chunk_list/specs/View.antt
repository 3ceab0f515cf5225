-- What tasks see of the heaps of their ancestors.
use Rattle.std.specs.Prelude.{ℕ, List, [], ◌∷◌, Option, Some, None, map, option_map}
use Rattle.object_layout.specs.declared.word.Addr.{Addr}
use Rattle.object_layout.specs.Cell.{Cell}
use Rattle.object_layout.specs.ChunkValue.{ChunkValue}
use Rattle.object_layout.specs.Piece.{PieceValue, frozen_at}
pub use Rattle.frozen_views.specs.Level.{Level, level_of, nearest, piece_in}

-- what begins at an offset of a chunk with this piece
abbrev pub seen_in : Option PieceValue → ℕ → Option Cell
seen_in None offset = None
seen_in (Some f) offset = frozen_at f.objects offset

-- the immutable object at an address
abbrev pub seen_at : List Level → Addr → Option Cell
seen_at ls a = seen_in (nearest ls a.chunk) a.offset

-- a level, or one without chunks
abbrev pub level_in : Option Level → Level
level_in None = []
level_in (Some l) = l

-- the levels that are shown by these
abbrev pub levels_in : {A : Type 0} → (A → Level) → List (Option A) → List Level
levels_in shows ls = map (λ o. level_in (option_map shows o)) ls

-- the levels that a task sees, if any
abbrev pub levels_above : Option (List Level) → List Level
levels_above None = []
levels_above (Some ls) = ls

-- what the children of a task see, whose heap has these chunks, and which sees these levels itself
abbrev pub view_below : List ChunkValue → Option (List Level) → List Level
view_below ks above = level_of ks ∷ levels_above above
