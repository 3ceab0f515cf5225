use Rattle.text_faults.proofs.Common.{◌≡◌, ◌≤◌, length, placed_from, placed_words, form_of, behind_first, first_misnamed}
use Rattle.text_faults.proofs.walk.LinesAbove.first_misnamed.Given as goal

abbrev pub invariant-loop-form : goal.invariant-loop-form
invariant-loop-form l = record {
  value : first_misnamed l.self l.form (placed_from l.line l.at) ≡ first_misnamed l.self (form_of (placed_words l.parsed.line.now)) (behind_first (placed_words l.parsed.line.now));
  within : l.at ≤ length l.line;
}

abbrev pub decreases-loop-form : goal.decreases-loop-form
decreases-loop-form l = length l.form
