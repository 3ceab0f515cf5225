-- The pieces that are cached of a list of chunks.
use Rattle.std.specs.Prelude.{◌≡◌, ℕ, ◌+◌, ◌≤◌, ◌==◌, Bool, true, false, List, [], ◌∷◌, ◌++◌, Option, Some, None, if◌then◌else◌, length, map}
use Rattle.std.specs.List.{list_any}
use Rattle.object_layout.specs.ChunkValue.{ChunkValue}
use Rattle.object_layout.specs.Piece.{PieceValue}
use Rattle.frozen_views.specs.Level.{Level, level_of, nearest, piece_in}

-- the layers of pieces, the last made first; the numbers of the chunks that changed since; for how many more numbers
-- there is capacity; and whether everything was dropped
pub record PiecesValue : Type 0 where
  pub layers : List Level
  pub stale : List ℕ
  pub places : ℕ
  pub lost : Bool

-- what is cached, if anything
abbrev pub pieces_of : Option PiecesValue → PiecesValue
pieces_of None = record { layers = []; stale = []; places = 0; lost = true }
pieces_of (Some p) = p

-- whether a number is among these
abbrev pub is_among : List ℕ → ℕ → Bool
is_among ns n = list_any (λ m. m == n) ns

abbrev pub numbers_of : List ChunkValue → List ℕ
numbers_of ks = map (λ k. k.number) ks

-- the piece that a number needs: none if the cached one is right
abbrev pub needed : PiecesValue → List ChunkValue → ℕ → Option PieceValue
needed p ks number = if (if p.lost then true else is_among p.stale number) then piece_in (level_of ks) number else None

-- whether the layers exist, and no chunk has changed since
abbrev pub is_settled : PiecesValue → Bool
is_settled p = if p.lost then false else (length p.stale == 0)

-- ---- the invariant

-- unless everything was dropped, the layers show of each chunk what it holds, except of those that have changed since,
-- and nothing of other numbers
pub record ShowsChunks (p : PiecesValue) (ks : List ChunkValue) : Type 0 where
  pub same : p.lost ≡ false → (number : ℕ) → is_among p.stale number ≡ false → nearest p.layers number ≡ piece_in (level_of ks) number
  pub no_other : p.lost ≡ false → (number : ℕ) → piece_in (level_of ks) number ≡ None → nearest p.layers number ≡ None

-- ---- changes

-- the chunks of these numbers count as changed, and others as before; or everything is dropped, which happens only if
-- capacity for the numbers was missing
pub record NotesChanges (old new : PiecesValue) (numbers : List ℕ) : Type 0 where
  pub before : new.lost ≡ false → old.lost ≡ false
  pub layers : new.lost ≡ false → new.layers ≡ old.layers
  pub stale : new.lost ≡ false → (n : ℕ) → is_among new.stale n ≡ is_among (old.stale ++ numbers) n
  pub enough : old.lost ≡ false → length numbers ≤ old.places → new.lost ≡ false
  pub places : new.lost ≡ false → old.places ≤ new.places + length numbers

-- the number of a chunk in which an object is written or placed; none if the object is mutable, since no piece shows it
abbrev pub written_chunk : Bool → ℕ → List ℕ
written_chunk mutable number = if mutable then [] else number ∷ []
