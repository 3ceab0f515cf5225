use Rattle.log_sites.proofs.Common.{◌≡◌, drop, behind_space}
use Rattle.log_sites.proofs.line.behind_space.Given as goal

abbrev pub invariant-loop-i : goal.invariant-loop-i
invariant-loop-i l = behind_space (drop l.i l.text) ≡ behind_space l.text
