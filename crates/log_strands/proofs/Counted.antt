-- How many acts pieces say.
use Rattle.log_strands.proofs.Common.{◌≡◌, ◌<◌, ◌≤◌, ◌+◌, ℕ, List, length, get_or, take, ap, slice_range, arith, sum_by, length-map, length-flat_map, sum_by_more_le, event, LogPiece, text_at, acts_in, acts_of_piece, events_in, events_of_pieces}

-- the acts of one piece and of those before it are no more than all
pub no_more : (texts : List (List ℕ)) (pieces : List LogPiece) (i : ℕ) (d : LogPiece) (text : List ℕ) → i < length pieces
    → text ≡ slice_range (text_at texts (get_or pieces i d).file) (get_or pieces i d).begin (get_or pieces i d).end
    → length (events_of_pieces texts (take i pieces)) + length (acts_in text) ≤ length (events_of_pieces texts pieces)
no_more texts pieces i d text lt is =
    let count : LogPiece → ℕ = λ p. length (events_in texts p) in
    let before : length (events_of_pieces texts (take i pieces)) ≡ sum_by count (take i pieces) = length-flat_map (events_in texts) (take i pieces) in
    let one : length (events_in texts (get_or pieces i d)) ≡ length (acts_of_piece texts (get_or pieces i d)) = length-map (acts_of_piece texts (get_or pieces i d)) (event (get_or pieces i d).strand) in
    let same : length (acts_in text) ≡ length (acts_of_piece texts (get_or pieces i d)) = ap (λ (t : List ℕ). length (acts_in t)) is in
    let all : length (events_of_pieces texts pieces) ≡ sum_by count pieces = length-flat_map (events_in texts) pieces in
    let part = sum_by_more_le count pieces i d lt in
    omega (arith, before, one, same, all, part)
