-- The unordered pairs of a run, and what they say about other schedules.
use Rattle.std.specs.Prelude.{◌≡◌, ℕ, ◌==◌, Option, Some, None, List, length, if◌then◌else◌}
use Rattle.race_report.specs.below.hh_lang.{ProgramText}
use Rattle.race_report.specs.below.run_trace.{EntryValue, SettingsValue, field_limit}
use Rattle.hh_model.specs.declared.data.End.TheVariants.{Done}
use Rattle.run_ledger.specs.declared.data.RunEnd.TheVariants.{Machine}
use Rattle.run_ledger.specs.Journals.{end_of, machine_of, tasks_of}
use Rattle.saturating_counts.specs.Counts.{raised_by}
use Rattle.race_report.specs.declared.data.Race.{Race}
use Rattle.race_report.specs.declared.data.Sight.{Sight}
use Rattle.race_report.specs.declared.data.Sight.TheVariants.{Fields, Swaps, Prints}
use Rattle.race_report.specs.Sights.{looked}
use Rattle.race_report.specs.Report.{IsReport}
use Rattle.schedule_report.specs.declared.data.Clashes.{Clashes}
use Rattle.schedule_report.specs.declared.data.Verdict.{Verdict}
use Rattle.schedule_report.specs.declared.data.Verdict.TheVariants.{Agree, AgreeButForPrints, MayDiffer}

-- the run of a journal ended by the return of main
abbrev pub EndsByMain : ProgramText → SettingsValue → List EntryValue → Type 0
EndsByMain p s journal = end_of p s journal ≡ Some (Machine Done)

-- the unordered pairs in a journal's run of what it is scanned for, one for each field
abbrev pub ArePairs : Sight → ProgramText → SettingsValue → List EntryValue → List Race → Type 0
ArePairs sight p s journal = IsReport (machine_of p s journal).edges (looked sight p (field_limit s.version) (tasks_of journal))

-- races, compare and swaps that contend, and prints
pub record AreClashes (p : ProgramText) (s : SettingsValue) (journal : List EntryValue) (c : Clashes) : Type 0 where
  pub races : ArePairs Fields p s journal c.races
  pub swaps : ArePairs Swaps p s journal c.swaps
  pub prints : ArePairs Prints p s journal c.prints

-- a whole run, and no other, has its pairs reported
abbrev pub IsAnswer : ProgramText → SettingsValue → List EntryValue → Option Clashes → Type 0
IsAnswer p s journal None = EndsByMain p s journal → ⊥
IsAnswer p s journal (Some c) = EndsByMain p s journal × AreClashes p s journal c

-- the number of pairs of accesses reported, in 64 bits
abbrev pub clash_count : Clashes → ℕ
clash_count c = raised_by (length c.races) (length c.swaps)

-- what that says about all schedules
abbrev pub verdict_of : Clashes → Verdict
verdict_of c = if clash_count c == 0 then (if length c.prints == 0 then Agree else AgreeButForPrints) else MayDiffer (clash_count c)
