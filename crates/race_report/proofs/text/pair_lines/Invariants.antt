use Rattle.race_report.proofs.Common.{◌≡◌, take, flat_map, pair_line}
use Rattle.race_report.proofs.text.pair_lines.Given as goal

abbrev pub invariant-loop-race : goal.invariant-loop-race
invariant-loop-race l = l.text.items ≡ flat_map (pair_line l.word) (take l.race-index l.races)
