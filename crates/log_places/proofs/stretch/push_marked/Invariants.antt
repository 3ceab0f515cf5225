use Rattle.log_places.proofs.Common.{◌≡◌, ◌++◌, drop, marked}
use Rattle.log_places.proofs.stretch.push_marked.Given as goal

abbrev pub invariant-loop-stretch : goal.invariant-loop-stretch
invariant-loop-stretch l =
    l.into.items ++ marked l.from l.end (drop l.stretch-index l.stretches) ≡ l.fn.into.items ++ marked l.start l.end l.stretches
