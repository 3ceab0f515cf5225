use Rattle.log_json.proofs.Common.{◌≡◌, take, flat_map, name_of, use_group_piece}
use Rattle.log_json.proofs.uses.groups_text.Given as goal

abbrev pub invariant-loop-group : goal.invariant-loop-group
invariant-loop-group l = l.text.items ≡ flat_map (use_group_piece (name_of l.names) l.fault l.uses) (take l.group-index l.groups)
