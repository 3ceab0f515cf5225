-- A trace text, read again, gives the journal for which it was written.
use Rattle.std.specs.Prelude.{◌≡◌, ℕ, List}
use Rattle.std.specs.List.{All}
use Rattle.run_trace.specs.declared.settings.Version.{Version}
use Rattle.run_trace.specs.declared.trace.Trace.{Trace}
use Rattle.run_trace.specs.Entry.{EntryValue, IsEntry}
use Rattle.run_trace.specs.Trace.{IsTraceText, trace_text}

-- what is written for a journal is its trace text, and no other journal's
abbrev pub TextsAreReadAgain : Type 0
TextsAreReadAgain =
    (n : ℕ) (v : Version) (journal : List EntryValue) → All IsEntry journal
    → IsTraceText n (trace_text v journal) (record { version = v; entries = journal })
    × ((t : Trace) → IsTraceText n (trace_text v journal) t → t ≡ record { version = v; entries = journal })
