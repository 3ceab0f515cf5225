-- RACES BY PAIRS OF LINES
use Rattle.std.specs.Prelude.{ℕ, ◌+◌, ◌==◌, ◌&&◌, not, Bool, List, [], ◌∷◌, count_by, filter}
use Rattle.race_report.specs.declared.data.Race.{Race}
use Rattle.race_groups.specs.declared.group.RaceGroup.{RaceGroup}

-- the line of an earlier access, and that of a later one
abbrev pub Lines : Type 0
Lines = ℕ × ℕ

abbrev pub lines_of_race : Race → Lines
lines_of_race r = (r.first.1, r.second.1)

abbrev pub same_pair : Lines → Lines → Bool
same_pair x y = (x.0 == y.0) && (x.1 == y.1)

-- two races are on one pair of lines
abbrev pub same_lines : Race → Race → Bool
same_lines r s = same_pair (lines_of_race r) (lines_of_race s)

-- the group of a race alone
abbrev pub group_of : Race → RaceGroup
group_of r = record { example = r; fields = 1 }

-- the groups of races, in the order of their first races: that of all races on the lines of the first one, and those of
-- the races on other lines
abbrev pub groups_of : List Race → List RaceGroup
groups_of [] = []
groups_of (r ∷ rs) = record { example = r; fields = count_by (same_lines r) rs + 1 } ∷ filter (λ g. not (same_lines r g.example)) (groups_of rs)
