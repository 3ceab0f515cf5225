use Rattle.task_table.proofs.Common.{◌≡◌, drop, words_onto}
use Rattle.task_table.proofs.lines.words_of.Given as goal

abbrev pub invariant-loop-object : goal.invariant-loop-object
invariant-loop-object l = words_onto l.words (drop l.object-index l.objects) ≡ words_onto 0 l.objects
