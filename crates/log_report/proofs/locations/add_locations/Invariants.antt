use Rattle.log_report.proofs.Common.{◌≡◌, ◌++◌, ◌-◌, name_of, lines_from}
use Rattle.log_report.proofs.locations.add_locations.Given as goal

abbrev pub invariant-loop-location : goal.invariant-loop-location
invariant-loop-location l = l.text.items ++ lines_from (name_of l.names) l.race l.location (l.race.end - l.location) ≡ l.initial.text.items ++ lines_from (name_of l.names) l.race l.race.start (l.race.end - l.race.start)
