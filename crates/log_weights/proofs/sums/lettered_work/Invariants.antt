use Rattle.log_weights.proofs.Common.{◌≡◌, ◌<◌, ◌+◌, ◌^◌, length, codes, acts_by, work_of}
use Rattle.log_weights.proofs.sums.lettered_work.Given as goal

abbrev pub invariant-loop-act : goal.invariant-loop-act
invariant-loop-act l = record {
  all : l.work + work_of (acts_by (codes "k") l.left) ≡ work_of (acts_by (codes "k") l.fn.text);
  fits : l.work < 2 ^ 64;
}

abbrev pub decreases-loop-act : goal.decreases-loop-act
decreases-loop-act l = length l.left
