use Rattle.frozen_views.proofs.Common.{◌≡◌, ◌++◌, map, take, arc_value}
use Rattle.frozen_views.proofs.pieces.share_all.Given as goal

abbrev pub invariant-loop-layer : goal.invariant-loop-layer
invariant-loop-layer l = map arc_value l.layers.items ≡ map arc_value l.fn.layers.items ++ map arc_value (take l.layer-index l.more)
