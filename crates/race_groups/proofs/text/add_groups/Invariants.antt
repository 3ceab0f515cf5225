use Rattle.race_groups.proofs.Common.{◌≡◌, ◌++◌, take, map, flat_map, group_text}
use Rattle.race_groups.proofs.text.add_groups.Given as goal

abbrev pub invariant-loop-group : goal.invariant-loop-group
invariant-loop-group l = l.text.items ≡ l.initial.text.items ++ flat_map (group_text (map (λ x. x.now) l.lines)) (take l.group-index l.groups)
