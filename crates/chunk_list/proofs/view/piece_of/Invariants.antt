use Rattle.chunk_list.proofs.Common.{◌≡◌, drop, levels_in, nearest, arc_value}
use Rattle.chunk_list.proofs.view.piece_of.Given as goal

abbrev pub invariant-loop-level : goal.invariant-loop-level
invariant-loop-level l = nearest (levels_in arc_value l.levels) l.number ≡ nearest (levels_in arc_value (drop l.level-index l.levels)) l.number
