use Rattle.log_json.proofs.Common.{◌≡◌, ◌++◌, ◌-◌, name_of, pieces_from}
use Rattle.log_json.proofs.races.add_locations.Given as goal

abbrev pub invariant-loop-location : goal.invariant-loop-location
invariant-loop-location l = l.text.items ++ pieces_from (name_of l.names) l.race l.location (l.race.end - l.location) ≡ l.initial.text.items ++ pieces_from (name_of l.names) l.race l.race.start (l.race.end - l.race.start)
