use Rattle.log_report.proofs.Common.{◌≡◌, ◌++◌, take, flat_map, name_of, use_group_line}
use Rattle.log_report.proofs.uses.add_use_groups.Given as goal

abbrev pub invariant-loop-group : goal.invariant-loop-group
invariant-loop-group l = l.text.items ≡ l.initial.text.items ++ flat_map (use_group_line (name_of l.names) l.fault l.uses) (take l.group-index l.groups)
