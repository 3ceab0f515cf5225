use Rattle.copying_gc.proofs.Common.{◌≡◌, take, drop, fold, with_chunks, with_birth_name, CanName}
use Rattle.copying_gc.proofs.exchange.name_all.Given as goal

abbrev pub invariant-loop-survivor : goal.invariant-loop-survivor
invariant-loop-survivor l = record {
  named : l.heap ≡ with_chunks l.fn.heap (fold with_birth_name l.fn.heap.chunks (take l.survivor-index l.found));
  ready : CanName l.heap.chunks (drop l.survivor-index l.found);
}
