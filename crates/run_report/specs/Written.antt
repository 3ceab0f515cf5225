-- What is written of a run, by the accounts at its end and the totals of its entries.
use Rattle.std.specs.Prelude.{ℕ, Bool, List, [], ◌++◌, if◌then◌else◌, length}
use Rattle.run_trace.specs.declared.settings.Version.{Version}
use Rattle.run_trace.specs.Entry.{EntryValue}
use Rattle.run_trace.specs.Trace.{trace_text}
use Rattle.run_ledger.specs.declared.data.Ledger.{Ledger}
use Rattle.run_ledger.specs.declared.data.RunEnd.{RunEnd}
use Rattle.run_ledger.specs.Text.{output_lines, report_lines, end_line, end_words}
use Rattle.run_report.specs.declared.totals.Totals.{Totals}
use Rattle.run_report.specs.Totals.{report_from}

-- the lines of the report, if it is asked for
abbrev pub report_part : Bool → Ledger → ℕ → Totals → List ℕ
report_part report l turns totals = if report then report_lines (report_from l turns totals) else []

-- the trace, if it is asked for
abbrev pub trace_part : Bool → Version → List EntryValue → List ℕ
trace_part trace version journal = if trace then trace_text version journal else []

-- all that is written
abbrev pub text_from : Version → Ledger → Totals → Bool → Bool → List EntryValue → RunEnd → List ℕ
text_from version l totals report trace journal end =
    output_lines l.machine.outputs
    ++ report_part report l (length journal) totals
    ++ trace_part trace version journal
    ++ end_line (end_words end)
