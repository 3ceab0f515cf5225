use Rattle.log_report.proofs.Common.{◌≡◌, ◌++◌, drop, use_items}
use Rattle.log_report.proofs.uses.use_items.Given as goal

abbrev pub invariant-loop-place : goal.invariant-loop-place
invariant-loop-place l = l.items ++ use_items l.place (drop l.place l.uses) ≡ use_items 0 l.uses
