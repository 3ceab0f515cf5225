use Rattle.copying_gc.proofs.Common.{◌≡◌, ◌++◌, take, drop, map, followed_ref}
use Rattle.copying_gc.proofs.redirect.follow_all.Given as goal

abbrev pub invariant-loop-reference : goal.invariant-loop-reference
invariant-loop-reference l = l.references ≡ map (followed_ref l.heap.chunks) (take l.reference-index l.fn.references) ++ drop l.reference-index l.fn.references
