use Rattle.chunk_list.proofs.Common.{◌≡◌, ◌++◌, take, levels_in, arc_value}
use Rattle.chunk_list.proofs.view.push_levels.Given as goal

abbrev pub invariant-loop-level : goal.invariant-loop-level
invariant-loop-level l = levels_in arc_value l.levels.items ≡ levels_in arc_value l.fn.levels.items ++ levels_in arc_value (take l.level-index l.more)
