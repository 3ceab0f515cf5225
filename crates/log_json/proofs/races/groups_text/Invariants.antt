use Rattle.log_json.proofs.Common.{◌≡◌, take, flat_map, name_of, group_piece}
use Rattle.log_json.proofs.races.groups_text.Given as goal

abbrev pub invariant-loop-group : goal.invariant-loop-group
invariant-loop-group l = l.text.items ≡ flat_map (group_piece (name_of l.names) l.races) (take l.group-index l.groups)
