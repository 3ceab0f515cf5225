use Rattle.log_json.proofs.Common.{◌≡◌, take, flat_map, name_of, locations_piece}
use Rattle.log_json.proofs.races.locations_text.Given as goal

abbrev pub invariant-loop-race : goal.invariant-loop-race
invariant-loop-race l = l.text.items ≡ flat_map (locations_piece (name_of l.names)) (take l.race-index l.races)
