use Rattle.log_strands.proofs.Common.{◌≡◌, ◌≤◌, length, acts_by}
use Rattle.log_strands.proofs.acts_by.next_act_by.Given as goal

abbrev pub invariant-lines : goal.invariant-lines
invariant-lines l = record {
  same : acts_by l.letters l.left ≡ acts_by l.letters l.fn.text;
  within : length l.left ≤ length l.fn.text;
}

abbrev pub decreases-lines : goal.decreases-lines
decreases-lines l = length l.left
