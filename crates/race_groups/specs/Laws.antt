-- What groups say of races, each in its own words.
use Rattle.std.specs.Prelude.{◌≡◌, ℕ, ◌<◌, true, false, List, Some, count_by, slice_get, Contains}
use Rattle.race_report.specs.declared.data.Race.{Race}
use Rattle.race_groups.specs.declared.group.RaceGroup.{RaceGroup}
use Rattle.race_groups.specs.RaceGroups.{same_lines, groups_of}

pub record IsRaceGrouping (races : List Race) (groups : List RaceGroup) : Type 0 where
  -- each race is on the lines of a group
  pub every : (r : Race) → Contains races r → (g : RaceGroup) × Contains groups g × (same_lines g.example r ≡ true)
  -- a group's example is one of the races, and its number is how many are on the lines of that one
  pub each : (g : RaceGroup) → Contains groups g → Contains races g.example × (g.fields ≡ count_by (same_lines g.example) races)
  -- no two groups are on one pair of lines
  pub apart : (j k : ℕ) (g h : RaceGroup) → j < k → slice_get groups j ≡ Some g → slice_get groups k ≡ Some h → same_lines g.example h.example ≡ false

abbrev pub RaceGroupsAreExact : Type 0
RaceGroupsAreExact = (races : List Race) → IsRaceGrouping races (groups_of races)
