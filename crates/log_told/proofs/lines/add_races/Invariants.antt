use Rattle.log_told.proofs.Common.{◌≡◌, ◌++◌, take, flat_map, lines_of_race}
use Rattle.log_told.proofs.lines.add_races.Given as goal

abbrev pub invariant-loop-found : goal.invariant-loop-found
invariant-loop-found l = l.lines.items ≡ l.initial.lines.items ++ flat_map lines_of_race (take l.found-index l.races)
