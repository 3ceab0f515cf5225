use Rattle.chunk_list.proofs.Common.{◌≡◌, ◌++◌, [], replicate, levels_in, arc_value}
use Rattle.chunk_list.proofs.view.push_bare.Given as goal

abbrev pub invariant-loop : goal.invariant-loop
invariant-loop l = levels_in arc_value l.levels.items ≡ levels_in arc_value l.fn.levels.items ++ replicate l.counter []
