use Rattle.run_answers.proofs.Common.{◌≡◌, ℕ, Bool, true, List, length, refl, subst, ◌∙◌, IfOk, string_bytes, ProgramText, EntryValue, SettingsValue, Report, ledger_of, opening, report_of, report_lines, report_from, totals_from, report_part, report_shown, SharedValue, accounts, totals_of}
use Rattle.run_answers.proofs.ended.report_lines.Goals as goal

from_totals : (p : ProgramText) (s : SettingsValue) (journal : List EntryValue) → report_of p s journal ≡ report_from (ledger_of p s journal) (length journal) (totals_from p s (opening p s) journal)
from_totals p s journal = refl

shown : (w : SharedValue) (asked : Bool) (r : Report) → asked ≡ true → r ≡ report_of w.program w.settings w.journal.items
    → report_lines r ≡ report_part asked (accounts w) (length w.journal.items) (totals_of w)
shown w asked r wants is = report_shown asked (accounts w) (length w.journal.items) (totals_of w) r wants (is ∙ from_totals w.program w.settings w.journal.items)

pub returns-then-asked : goal.returns-then-asked
returns-then-asked c =
    subst (λ (bytes : List ℕ). IfOk c.report_text.result (λ text. string_bytes text ≡ bytes))
    (shown c.args.counted.now c.args.asked c.report.result c.if-asked.true c.report.ensures) c.report_text.ensures
