-- What callers see of a chunk.
use Rattle.std.specs.Prelude.{◌≡◌, ℕ, ◌≤◌, ◌<◌, ◌^◌, List, length, take, All}
use Rattle.object_layout.specs.Cell.{Cell, IsCell}
use Rattle.object_layout.specs.Layout.{cells_of_words, words_of_cells}

-- its number, its words in all, and its objects in order
pub record ChunkValue : Type 0 where
  pub number : ℕ
  pub size : ℕ
  pub cells : List Cell

abbrev pub number_of : ChunkValue → ℕ
number_of k = k.number

-- words of which the first `used` hold exactly these objects
pub record HoldsCells (words : List ℕ) (used : ℕ) (cells : List Cell) : Type 0 where
  pub within : used ≤ length words
  pub laid : take used words ≡ words_of_cells cells
  pub each : All IsCell cells
  pub sized : length words < 2 ^ 32

-- the objects in the first `used` words
abbrev pub cells_in : List ℕ → ℕ → List Cell
cells_in words used = cells_of_words 0 (take used words)
