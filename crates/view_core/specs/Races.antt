-- What is shown of the races of a run.
use Rattle.std.specs.Prelude.{ℕ, zero, suc, List}
use Rattle.view_core.specs.Common.{ProgramText, SettingsValue, EntryValue, ShownRaces, RacesAreShown, AnswerStatus, Done, Races, Reply, Says}

abbrev pub status_of_count : ℕ → AnswerStatus
status_of_count zero = Done
status_of_count (suc n) = Races

-- the groups of its races, by pairs of lines
abbrev pub ShowsRaces : List ℕ → ProgramText → SettingsValue → List EntryValue → Reply → Type 0
ShowsRaces source p s journal w = (shown : ShownRaces) × RacesAreShown source p s journal shown × Says (status_of_count shown.races) shown.text w
