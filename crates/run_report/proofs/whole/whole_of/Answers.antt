use Rattle.std.proofs.Common.{◌∙◌, sym}
use Rattle.run_report.proofs.Writing.{whole_text}
use Rattle.run_report.proofs.whole.whole_of.Goals as goal

pub returns-clause-text : goal.returns-clause-text
returns-clause-text c =
    let counted = c.args.counted.now in
    c.from_vec.ensures
    ∙ (c.in_ok-text.ensures
    ∙ whole_text counted.book.program c.args.settings c.args.journal.now c.args.extras.report c.args.extras.trace _ counted.book.ledger counted.totals c.in-Some.end c.version.ensures
    c.requires.ledger c.requires.totals (sym c.in-Some.ensures))
