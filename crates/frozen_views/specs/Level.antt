-- The immutable objects of the chunks of a heap, by the chunks' numbers.
use Rattle.std.specs.Prelude.{ℕ, ◌==◌, List, [], ◌∷◌, Option, None, map}
use Rattle.std.specs.List.{find, position}
use Rattle.std.specs.Option.{option_or}
use Rattle.object_layout.specs.ChunkValue.{ChunkValue}
use Rattle.object_layout.specs.Piece.{PieceValue, frozen_of}

-- the chunks of a heap at one time: the number and the immutable objects of each
abbrev pub Level : Type 0
Level = List PieceValue

abbrev pub level_of : List ChunkValue → Level
level_of ks = map frozen_of ks

-- the position of the piece of a number
abbrev pub place_on : Level → ℕ → Option ℕ
place_on l number = position (λ f. f.number == number) l

-- what the chunk of a number had
abbrev pub piece_in : Level → ℕ → Option PieceValue
piece_in l number = find (λ f. f.number == number) l

-- the nearest of these levels that has the chunk decides
abbrev pub nearest : List Level → ℕ → Option PieceValue
nearest [] number = None
nearest (l ∷ ls) number = option_or (piece_in l number) (nearest ls number)
