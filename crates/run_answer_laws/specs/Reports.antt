-- The report on a run's log, and the run.
use Rattle.std.specs.Prelude.{◌≡◌, ◌↔◌, ◌<◌, ◌≤◌, ℕ, true, All, Some, List, [], length}
use Rattle.plain_vec.specs.Members.{In}
use Rattle.log_replies.specs.Shown.{SaysReport, ShowsLog}
use Rattle.log_replies.specs.below.log_report.{LogReport, ToldRace, ToldUse}
use Rattle.log_request.specs.declared.view.LogView.{LogView}
use Rattle.run_size_laws.specs.below.run_limit_laws.{IsSmallRun, run_texts}
use Rattle.run_size_laws.specs.below.run_trace.{IsEntry}
use Rattle.run_stop_laws.specs.below.run_read_laws.{Entangled, EntryValue, Machine, ProgramText, SettingsValue, end_of, is_legal, tasks_of}
use Rattle.run_verdict_laws.specs.Reported.{RunRacesAt}
use Rattle.whole_call.specs.declared.reply.Reply.{Reply}

-- the report has a race of the location
abbrev pub HasRaceAt : LogReport → ℕ → ℕ → Type 0
HasRaceAt report block x = (r : ToldRace) × In report.races r × (r.block ≡ block) × (r.start ≤ x) × (x < r.end)

-- the run was stopped on a read
abbrev pub WasStopped : ProgramText → SettingsValue → List EntryValue → Type 0
WasStopped p s journal = (reader : ℕ) × (owner : ℕ) × (end_of p s journal ≡ Some (Machine (Entangled reader owner)))

-- races at just the locations for which the run's accesses race, one entangled read if the run was stopped on it, no
-- entangled or stale use, and a unit of work for each step
pub record TellsRun (p : ProgramText) (s : SettingsValue) (journal : List EntryValue) (report : LogReport) : Type 0 where
  pub races : (block x : ℕ) → HasRaceAt report block x ↔ RunRacesAt p s journal block x
  pub stopped : ((u : ToldUse) × In report.entangled_reads u) ↔ WasStopped p s journal
  pub once : length report.entangled_reads ≤ 1
  pub no_uses : report.entangled_uses ≡ []
  pub none_stale : report.stale_uses ≡ []
  pub work : report.work ≡ length (tasks_of journal)

-- whatever is answered of the log of a run is such a report
abbrev pub ReportsTellRuns : Type 0
ReportsTellRuns =
    (p : ProgramText) (s : SettingsValue) (journal : List EntryValue) → is_legal p s journal ≡ true → All IsEntry journal → IsSmallRun p journal
    → (names : List (List ℕ)) (view : LogView) (reply : Reply)
    → let texts = run_texts p s journal in
    ShowsLog names texts view reply → (report : LogReport) × SaysReport texts view report reply × TellsRun p s journal report
