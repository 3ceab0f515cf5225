use Rattle.run_journal.proofs.Common.{◌∙◌, ap, BookValue}
use Rattle.run_journal.proofs.Opens.{ledger_steady}
use Rattle.run_journal.proofs.Keeps.{ledger_countable}
use Rattle.run_journal.proofs.book.Book.held.Goals as goal

pub held-requires-clause-steady : goal.held-requires-clause-steady
held-requires-clause-steady c =
    let a = c.self.inside.accounts in
    ledger_steady a.program a.settings c.bounds.ensures a.ledger (c.self.invariant.legal (ap (λ (o : BookValue). o.stopped) c.self.view_is ∙ c.requires))

pub held-requires-clause-countable : goal.held-requires-clause-countable
held-requires-clause-countable c =
    let a = c.self.inside.accounts in
    ledger_countable a.program a.settings c.bounds.ensures a.ledger (c.self.invariant.legal (ap (λ (o : BookValue). o.stopped) c.self.view_is ∙ c.requires))
