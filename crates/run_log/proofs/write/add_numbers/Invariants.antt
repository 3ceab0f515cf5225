use Rattle.run_log.proofs.Common.{◌≡◌, ◌++◌, take, spaced_numbers}
use Rattle.run_log.proofs.write.add_numbers.Given as goal

abbrev pub invariant-loop-number : goal.invariant-loop-number
invariant-loop-number l = l.text.items ≡ l.initial.text.items ++ spaced_numbers (take l.number-index l.numbers)
