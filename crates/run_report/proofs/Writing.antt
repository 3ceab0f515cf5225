-- What is written of a run, put together.
use Rattle.run_report.proofs.Common.{◌≡◌, ℕ, ◌++◌, Bool, true, Some, List, length, ap, ap₂, sym, ◌∙◌, Version, EntryValue, SettingsValue, ProgramText, MachineState, Ledger, Report, RunEnd, opening, ledger_of, output_lines, report_lines, end_line_of, out_text, machine_is_run, Totals, totals_from, report_from, report_part, trace_part, text_from}

pub report_shown : (asked : Bool) (l : Ledger) (turns : ℕ) (totals : Totals) (r : Report) → asked ≡ true → r ≡ report_from l turns totals → report_lines r ≡ report_part asked l turns totals
report_shown asked l turns totals r ea er = rw ea (ap report_lines er)

-- by the accounts of a journal and the totals of its entries, it is all that is to be written of it
pub whole_text : (p : ProgramText) (s : SettingsValue) (journal : List EntryValue) (report trace : Bool) (version : Version) (l : Ledger) (totals : Totals) (end : RunEnd)
    → version ≡ s.version → l ≡ ledger_of p s journal → totals ≡ totals_from p s (opening p s) journal → l.end ≡ Some end
    → text_from version l totals report trace journal end ≡ out_text p s report trace journal
whole_text p s journal report trace version l totals end ev el et ee =
    let last : end_line_of (ledger_of p s journal).end ≡ end_line_of (Some end) = ap end_line_of (sym (ap (λ (k : Ledger). k.end) el) ∙ ee) in
    rw (ev, el, et)
    (ap₂ (λ (m : MachineState) (text : List ℕ). output_lines m.outputs ++ report_part report (ledger_of p s journal) (length journal) (totals_from p s (opening p s) journal) ++ trace_part trace s.version journal ++ text)
    (machine_is_run p s journal) (sym last))
