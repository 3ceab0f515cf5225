-- The pieces of each strand, one after the other.
use Rattle.std.specs.Prelude.{◌≡◌, ◌+◌, ℕ, Option, Some, None, List, [], ◌∷◌, length, take, drop, slice_get, if◌then◌else◌}
use Rattle.std.specs.HashMap.{get}
use Rattle.fork_graph.specs.declared.graph.GraphStrand.{GraphStrand}
use Rattle.fork_graph.specs.Graph.{strand}
use Rattle.log_pieces.specs.declared.piece.LogPiece.{LogPiece}
use Rattle.log_pieces.specs.Claims.{is_pair, is_that}
use Rattle.log_pieces.specs.Pieces.{acts_of_piece, events_of_pieces}
use Rattle.log_touches.specs.declared.pieces.Links.{Links}

-- the texts of a log, and pieces of them
pub record LogPiecesValue : Type 0 where
  pub texts : List (List ℕ)
  pub pieces : List LogPiece

-- the number of each piece's first act, where that of the first piece has number n
abbrev pub firsts_from : List (List ℕ) → ℕ → List LogPiece → List ℕ
firsts_from texts n [] = []
firsts_from texts n (p ∷ ps) = n ∷ firsts_from texts (n + length (acts_of_piece texts p)) ps

-- so many acts come before the piece at a place
abbrev pub NumbersPiece : LogPiecesValue → ℕ → ℕ → Type 0
NumbersPiece v place n = n ≡ length (events_of_pieces v.texts (take place v.pieces))

-- the place of a strand's first piece among pieces, of which the first stands at place k
abbrev pub next_on : GraphStrand → ℕ → List LogPiece → Option ℕ
next_on u k [] = None
next_on u k (p ∷ ps) = if is_that p.strand u.task u.index then Some k else next_on u (k + 1) ps

-- links lead from piece to piece of one strand
pub record ArePieceLinks (pieces : List LogPiece) (links : Links) : Type 0 where
  pub heads : (t i : ℕ) → get is_pair links.heads (t, i) ≡ next_on (strand t i) 0 pieces
  pub size : length links.nexts ≡ length pieces
  pub nexts : (k : ℕ) (p : LogPiece) → slice_get pieces k ≡ Some p → slice_get links.nexts k ≡ Some (next_on p.strand (k + 1) (drop (k + 1) pieces))
