-- The races of all locations, each on a line.
use Rattle.std.specs.Prelude.{ℕ, zero, suc, ◌+◌, ◌-◌, List, [], ◌++◌, codes}
use Rattle.std.specs.List.{flat_map}
use Rattle.std.specs.Fmt.{decimal}
use Rattle.log_report.specs.declared.told.ToldRace.{ToldRace}
use Rattle.log_report.specs.Labels.{Names}
use Rattle.log_report.specs.Races.{pair_text}

abbrev pub location_head : ℕ → ℕ → List ℕ
location_head block location = codes "race " ++ decimal block ++ codes " " ++ decimal location ++ codes ": "

abbrev pub location_line : Names → ToldRace → ℕ → List ℕ
location_line names r location = location_head r.block location ++ pair_text names r ++ codes "\n"

-- of so many locations from one on
abbrev pub lines_from : Names → ToldRace → ℕ → ℕ → List ℕ
lines_from names r location zero = []
lines_from names r location (suc n) = location_line names r location ++ lines_from names r (location + 1) n

abbrev pub location_lines : Names → ToldRace → List ℕ
location_lines names r = lines_from names r r.start (r.end - r.start)

abbrev pub all_lines : Names → List ToldRace → List ℕ
all_lines names races = flat_map (location_lines names) races
