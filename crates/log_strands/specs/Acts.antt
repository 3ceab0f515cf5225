-- Acts of some letters, and how many bytes pieces have.
use Rattle.std.specs.Prelude.{ℕ, Bool, List, length, filter, slice_range, sum_by}
use Rattle.log_lines.specs.Letters.{is_among, letter_of}
use Rattle.log_pieces.specs.Pieces.{text_at, acts_in}
use Rattle.log_pieces.specs.declared.piece.LogPiece.{LogPiece}
use Rattle.log_strands.specs.below.log_lines.{Act}

-- the act's letter is one of these
abbrev pub is_by : List ℕ → Act → Bool
is_by letters act = is_among letters (letter_of act)

-- the acts of some letters that a text says
abbrev pub acts_by : List ℕ → List ℕ → List Act
acts_by letters text = filter (is_by letters) (acts_in text)

abbrev pub piece_bytes : List (List ℕ) → LogPiece → ℕ
piece_bytes texts p = length (slice_range (text_at texts p.file) p.begin p.end)

abbrev pub bytes_of : List (List ℕ) → List LogPiece → ℕ
bytes_of texts pieces = sum_by (piece_bytes texts) pieces
