use Rattle.log_report.proofs.Common.{◌≡◌, ◌++◌, take, flat_map, name_of, group_line}
use Rattle.log_report.proofs.races.add_groups.Given as goal

abbrev pub invariant-loop-group : goal.invariant-loop-group
invariant-loop-group l = l.text.items ≡ l.initial.text.items ++ flat_map (group_line (name_of l.names) l.races) (take l.group-index l.groups)
