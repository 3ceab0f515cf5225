use Rattle.run_report.proofs.Common.{◌≡◌, ◌∙◌, Some, ap, subst, sym, IfOk, IfErr, opening, end_of, refused_as_run, out_text, BookValue, Reports, totals_from}
use Rattle.run_report.proofs.whole.whole_run.Goals as goal

pub whole_of-whole-requires-clause-totals : goal.whole_of-whole-requires-clause-totals
whole_of-whole-requires-clause-totals c =
    c.in_ok-counted.ensures.totals
    ∙ sym (ap (λ (o : BookValue). totals_from o.program c.args.settings (opening o.program c.args.settings) c.args.journal.now) c.in_ok-counted.ensures.book)

pub returns-clause-end : goal.returns-clause-end
returns-clause-end c =
    subst (λ (o : BookValue). IfOk c.whole_of-whole.result (λ run. end_of o.program c.args.settings c.args.journal.now ≡ Some run.end)) c.in_ok-counted.ensures.book c.whole_of-whole.ensures.end

pub returns-clause-text : goal.returns-clause-text
returns-clause-text c =
    subst (λ (o : BookValue). IfOk c.whole_of-whole.result (λ run. run.text ≡ out_text o.program c.args.settings c.args.extras.report c.args.extras.trace c.args.journal.now)) c.in_ok-counted.ensures.book
    c.whole_of-whole.ensures.text

pub returns-clause-fails : goal.returns-clause-fails
returns-clause-fails c =
    subst (λ (o : BookValue). IfErr c.whole_of-whole.result (Reports (refused_as_run o.program c.args.settings c.args.journal.now))) c.in_ok-counted.ensures.book c.whole_of-whole.ensures.fails
