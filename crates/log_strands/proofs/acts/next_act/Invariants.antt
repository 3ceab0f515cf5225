use Rattle.log_strands.proofs.Common.{◌≡◌, ◌≤◌, length, acts_in}
use Rattle.log_strands.proofs.acts.next_act.Given as goal

abbrev pub invariant-lines : goal.invariant-lines
invariant-lines l = record {
  same : acts_in l.left ≡ acts_in l.fn.text;
  within : length l.left ≤ length l.fn.text;
}

abbrev pub decreases-lines : goal.decreases-lines
decreases-lines l = length l.left
