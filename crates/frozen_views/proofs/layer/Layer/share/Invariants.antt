use Rattle.frozen_views.proofs.Common.{◌≡◌, ℕ, map, take, arc_value, option_or, piece_in}
use Rattle.frozen_views.proofs.layer.Layer.share.Given as goal

abbrev pub invariant-loop-piece : goal.invariant-loop-piece
invariant-loop-piece l = (n : ℕ) → piece_in l.self n ≡ option_or (piece_in l.fn.self n) (piece_in (map arc_value (take l.piece-index l.piece-items)) n)
