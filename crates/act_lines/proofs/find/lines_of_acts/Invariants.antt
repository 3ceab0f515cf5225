use Rattle.act_lines.proofs.Common.{◌≡◌, ◌++◌, List, drop, ActLine, act_lines_behind, act_lines, HasFound}
use Rattle.act_lines.proofs.find.lines_of_acts.Given as goal

abbrev pub invariant-loop-file : goal.invariant-loop-file
invariant-loop-file l = (seen : List ActLine) × (seen ++ act_lines_behind l.file (drop l.file l.texts) ≡ act_lines l.texts) × HasFound l.numbers seen l.search
