use Rattle.heap_marking.proofs.Common.{◌≡◌, ◌++◌, take, flat_map, into}
use Rattle.heap_marking.proofs.starts.push_all_own.Given as goal

abbrev pub invariant-loop-reference : goal.invariant-loop-reference
invariant-loop-reference l = l.starts.items ≡ l.fn.starts.items ++ flat_map (into l.heap.chunks) (take l.reference-index l.references)
