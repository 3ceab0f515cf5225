use Rattle.run_deltas.proofs.Common.{◌≡◌, take, names_of_references, with_roots}
use Rattle.run_deltas.proofs.roots.add_references.Given as goal

abbrev pub invariant-loop-reference : goal.invariant-loop-reference
invariant-loop-reference l = l.found ≡ with_roots l.initial.found (names_of_references (take l.reference-index l.refs))
