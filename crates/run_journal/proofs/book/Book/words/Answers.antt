use Rattle.run_journal.proofs.Common.{◌∙◌, ap, BookValue}
use Rattle.run_journal.proofs.Opens.{ledger_steady}
use Rattle.run_journal.proofs.book.Book.words.Goals as goal

pub words-requires : goal.words-requires
words-requires c =
    let a = c.self.inside.accounts in
    ledger_steady a.program a.settings c.bounds.ensures a.ledger (c.self.invariant.legal (ap (λ (o : BookValue). o.stopped) c.self.view_is ∙ c.requires))
