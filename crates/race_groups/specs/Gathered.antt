-- Groups that are gathered race by race.
use Rattle.std.specs.Prelude.{◌≡◌, ℕ, ◌+◌, ◌<◌, ◌^◌, Some, List, [], ◌∷◌, map, slice_get, if◌then◌else◌}
use Rattle.race_report.specs.declared.data.Race.{Race}
use Rattle.race_groups.specs.declared.group.RaceGroup.{RaceGroup}
use Rattle.race_groups.specs.RaceGroups.{Lines, lines_of_race, same_lines, group_of}

-- the groups with one more race
abbrev pub with_grouped_race : List RaceGroup → Race → List RaceGroup
with_grouped_race [] r = group_of r ∷ []
with_grouped_race (g ∷ gs) r = if same_lines r g.example then record g { fields = g.fields + 1 } ∷ gs else g ∷ with_grouped_race gs r

abbrev pub lines_of_groups : List RaceGroup → List Lines
lines_of_groups gs = map (λ (g : RaceGroup). lines_of_race g.example) gs

-- no group's count overflows by one more race
abbrev pub CountsFit : List RaceGroup → Type 0
CountsFit gs = (k : ℕ) (g : RaceGroup) → slice_get gs k ≡ Some g → g.fields + 1 < 2 ^ 64
