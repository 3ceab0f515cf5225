use Rattle.log_report.proofs.Common.{◌≡◌, ◌++◌, drop, race_items}
use Rattle.log_report.proofs.races.race_items.Given as goal

abbrev pub invariant-loop-place : goal.invariant-loop-place
invariant-loop-place l = l.items ++ race_items l.place (drop l.place l.races) ≡ race_items 0 l.races
