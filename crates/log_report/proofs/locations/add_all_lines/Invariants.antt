use Rattle.log_report.proofs.Common.{◌≡◌, ◌++◌, take, flat_map, name_of, location_lines}
use Rattle.log_report.proofs.locations.add_all_lines.Given as goal

abbrev pub invariant-loop-race : goal.invariant-loop-race
invariant-loop-race l = l.text.items ≡ l.initial.text.items ++ flat_map (location_lines (name_of l.names)) (take l.race-index l.races)
