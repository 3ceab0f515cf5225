use Rattle.run_report.proofs.Common.{◌∙◌, ap, subst, opening, first_refused, BookValue, Reports, totals_from}
use Rattle.run_report.proofs.counting.count.Goals as goal

pub returns-in-Ok-clause-totals : goal.returns-in-Ok-clause-totals
returns-in-Ok-clause-totals c =
    c.in-Ok.ensures.totals ∙ ap (λ (b : BookValue). totals_from b.program b.settings (opening b.program b.settings) c.args.journal.now) c.in_ok-book.ensures

pub returns-in-Err-clause-fails : goal.returns-in-Err-clause-fails
returns-in-Err-clause-fails c =
    subst (λ (b : BookValue). Reports (first_refused b.program b.settings c.args.journal.now) c.in-Err.error) c.in_ok-book.ensures c.in-Err.ensures.fails
