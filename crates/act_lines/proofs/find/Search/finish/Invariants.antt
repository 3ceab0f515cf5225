use Rattle.act_lines.proofs.Common.{◌-◌, List, length, ActLine, HasFound}
use Rattle.act_lines.proofs.Searching.{HasEnded}
use Rattle.act_lines.proofs.find.Search.finish.Given as goal

abbrev pub invariant-loop-found : goal.invariant-loop-found
invariant-loop-found l = (seen : List ActLine) → HasFound l.numbers seen l.fn.self → HasEnded l.numbers seen l.found

abbrev pub decreases-loop-found : goal.decreases-loop-found
decreases-loop-found l = length l.numbers - length l.found
