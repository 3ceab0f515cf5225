use Rattle.std.proofs.Common.{◌≡◌}
use Rattle.program_make.specs.Draws.{value_after}
use Rattle.program_make.specs.Text.{first_functions}
use Rattle.program_make.proofs.whole.functions.Given as goal

abbrev pub invariant-loop-number : goal.invariant-loop-number
invariant-loop-number l = (l.bytes.items ≡ first_functions l.seed l.size l.number) × (l.value ≡ value_after l.seed l.number)
