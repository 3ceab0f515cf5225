use Rattle.log_report.proofs.Common.{◌≡◌, drop, run_end}
use Rattle.log_report.proofs.races.run_end.Given as goal

abbrev pub invariant-loop-at : goal.invariant-loop-at
invariant-loop-at l = run_end l.last (drop l.at l.races) ≡ run_end l.fn.first (drop l.fn.from l.races)
