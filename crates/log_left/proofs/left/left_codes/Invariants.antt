use Rattle.std.proofs.Common.{◌≡◌, ◌++◌, drop}
use Rattle.log_left.specs.Left.{left_codes}
use Rattle.log_left.proofs.left.left_codes.Given as goal

abbrev pub invariant-loop-k : goal.invariant-loop-k
invariant-loop-k l = l.codes.items ++ left_codes l.texts (drop l.k l.pieces) (drop l.k l.places) ≡ left_codes l.texts l.pieces l.places
