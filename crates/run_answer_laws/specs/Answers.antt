-- What is answered of a run's log.
use Rattle.std.specs.Prelude.{◌≡◌, ◌⊎◌, ℕ, true, All, List}
use Rattle.log_replies.specs.Shown.{RefusesSize, ReportsFindings, ShowsLog}
use Rattle.log_request.specs.declared.view.LogView.{LogView}
use Rattle.run_size_laws.specs.below.run_limit_laws.{IsSmallRun, run_texts}
use Rattle.run_size_laws.specs.below.run_trace.{IsEntry}
use Rattle.run_stop_laws.specs.below.run_read_laws.{EntryValue, ProgramText, SettingsValue, is_legal}
use Rattle.whole_call.specs.declared.reply.Reply.{Reply}

abbrev pub RunLogsAreAccepted : Type 0
RunLogsAreAccepted =
    (p : ProgramText) (s : SettingsValue) (journal : List EntryValue) → is_legal p s journal ≡ true → IsSmallRun p journal
    → (names : List (List ℕ)) (view : LogView) (reply : Reply)
    → let texts = run_texts p s journal in
    ShowsLog names texts view reply → RefusesSize texts view reply ⊎ ReportsFindings texts view reply

-- if each entry is one that a trace may have, the log isn't too large either: whatever is answered is its report
abbrev pub RunLogsAreReported : Type 0
RunLogsAreReported =
    (p : ProgramText) (s : SettingsValue) (journal : List EntryValue) → is_legal p s journal ≡ true → All IsEntry journal → IsSmallRun p journal
    → (names : List (List ℕ)) (view : LogView) (reply : Reply)
    → let texts = run_texts p s journal in
    ShowsLog names texts view reply → ReportsFindings texts view reply
