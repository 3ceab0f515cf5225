-- What is shown of a trace.
use Rattle.view_core.proofs.Common.{◌≡◌, ℕ, List, sym, subst, Option, EntryValue, SettingsValue, RefusedAt, refused_as_run, TraceInput, settings_for, RunView, Reply, ShowsJournal, ShowsWhole, ShowsTrace}

-- what is shown of a journal, which is the trace's, with its settings
pub trace_told : (v : RunView) (l : SettingsValue) (input : List ℕ) (t : TraceInput) (s : SettingsValue) (journal : List EntryValue) (r : Option RefusedAt) (w : Reply) → s ≡ settings_for l t → journal ≡ t.trace.entries
    → refused_as_run t.program s journal ≡ r → ShowsWhole (ShowsJournal v input t.program s journal) r w → ShowsTrace v l input t w
trace_told v l input t s journal r w settings entries is h =
    subst (λ x. ShowsWhole (ShowsJournal v input t.program x t.trace.entries) (refused_as_run t.program x t.trace.entries) w) settings
    (subst (λ j. ShowsWhole (ShowsJournal v input t.program s j) (refused_as_run t.program s j) w) entries
    (subst (λ o. ShowsWhole (ShowsJournal v input t.program s journal) o w) (sym is) h))
