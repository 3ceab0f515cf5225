use Rattle.frozen_views.proofs.Common.{◌≡◌, map, drop, arc_value, nearest}
use Rattle.frozen_views.proofs.layer.piece_of.Given as goal

abbrev pub invariant-loop-layer : goal.invariant-loop-layer
invariant-loop-layer l = nearest (map arc_value l.layers) l.number ≡ nearest (map arc_value (drop l.layer-index l.layers)) l.number
