-- What is shown of the races of a run.
use Rattle.std.specs.Prelude.{◌≡◌, ℕ, List, length}
use Rattle.text_lines.specs.Lines.{lines_of}
use Rattle.hh_lang.specs.Form.{ProgramText}
use Rattle.run_trace.specs.Entry.{EntryValue}
use Rattle.run_trace.specs.Settings.{SettingsValue, field_limit}
use Rattle.run_ledger.specs.Journals.{machine_of, tasks_of}
use Rattle.race_report.specs.declared.data.Race.{Race}
use Rattle.race_report.specs.Accesses.{accesses}
use Rattle.race_report.specs.Report.{IsReport}
use Rattle.race_groups.specs.declared.shown.ShownRaces.{ShownRaces}
use Rattle.race_groups.specs.RaceGroups.{groups_of}
use Rattle.race_groups.specs.Swaps.{has_swaps}
use Rattle.race_groups.specs.Text.{groups_text}

-- how many races there are, and the text of their groups
abbrev pub shown_of : List ℕ → ProgramText → List Race → ShownRaces
shown_of source p races = record { races = length races; text = groups_text (lines_of source) (has_swaps p) (length races) (groups_of races) }

-- this is shown of the races that the report of a journal has
abbrev pub RacesAreShown : List ℕ → ProgramText → SettingsValue → List EntryValue → ShownRaces → Type 0
RacesAreShown source p s journal shown =
    (races : List Race) × IsReport (machine_of p s journal).edges (accesses p (field_limit s.version) (tasks_of journal)) races × (shown ≡ shown_of source p races)
