-- The words of a line, each with its column.
use Rattle.std.specs.Prelude.{ℕ, ◌+◌, ◌==◌, List, [], ◌∷◌, length, drop, if◌then◌else◌}
use Rattle.std.specs.List.{slice_split}
use Rattle.text_lines.specs.Lines.{is_blank}
use Rattle.text_faults.specs.declared.placed.Placed.{Placed}

-- a word, and the number of its first byte in the line, counted from 1
pub record PlacedWord : Type 0 where
  pub column : ℕ
  pub word : List ℕ

abbrev pub placed_of : Placed → PlacedWord
placed_of p = record { column = p.column; word = p.word.now }

-- the words among the pieces between blanks, of which the first begins in this column: those that aren't empty, up to
-- one that begins a comment
abbrev pub placed_in : ℕ → List (List ℕ) → List PlacedWord
placed_in column [] = []
placed_in column ([] ∷ pieces) = placed_in (column + 1) pieces
placed_in column ((c ∷ cs) ∷ pieces) =
    if c == 35 then []
    else record { column = column; word = c ∷ cs } ∷ placed_in (column + length (c ∷ cs) + 1) pieces

-- the words of a line from a place on
abbrev pub placed_from : List ℕ → ℕ → List PlacedWord
placed_from line at = placed_in (at + 1) (slice_split is_blank (drop at line))

-- the words of a line
abbrev pub placed_words : List ℕ → List PlacedWord
placed_words line = placed_from line 0
