use Rattle.frozen_views.proofs.Common.{◌≡◌, ℕ, take, option_or, level_of, piece_in}
use Rattle.frozen_views.proofs.layer.Layer.add_all.Given as goal

abbrev pub invariant-loop-chunk : goal.invariant-loop-chunk
invariant-loop-chunk l = (n : ℕ) → piece_in l.self n ≡ option_or (piece_in l.fn.self n) (piece_in (level_of (take l.chunk-index l.chunks)) n)
