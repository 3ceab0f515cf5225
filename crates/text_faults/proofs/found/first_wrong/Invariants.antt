use Rattle.text_faults.proofs.Common.{◌≡◌, ◌≤◌, ◌+◌, length, placed_from, first_wrong}
use Rattle.text_faults.proofs.found.first_wrong.Given as goal

abbrev pub invariant-loop-form : goal.invariant-loop-form
invariant-loop-form l = record {
  value : first_wrong l.behind l.form (placed_from l.line l.at) ≡ first_wrong (l.parsed.first.column + length l.parsed.first.word.now) l.parsed.form.now (placed_from l.parsed.line.now l.parsed.rest);
  within : l.at ≤ length l.line;
}

abbrev pub decreases-loop-form : goal.decreases-loop-form
decreases-loop-form l = length l.form
