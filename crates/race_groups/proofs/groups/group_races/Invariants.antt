use Rattle.race_groups.proofs.Common.{◌≡◌, [], fold, take, with_grouped_race}
use Rattle.race_groups.proofs.groups.group_races.Given as goal

abbrev pub invariant-loop-race : goal.invariant-loop-race
invariant-loop-race l = l.groups ≡ fold with_grouped_race [] (take l.race-index l.races)
