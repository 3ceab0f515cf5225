use Rattle.run_journal.proofs.Common.{sym, subst, false≢true, IsKind}
use Rattle.run_journal.proofs.Opens.{ledger_steady, ledger_stays, opened_after}
use Rattle.run_journal.proofs.book.Book.apply.Goals as goal

pub enter-requires-clause-steady : goal.enter-requires-clause-steady
enter-requires-clause-steady c =
    let a = c.self.inside.accounts in
    ledger_steady a.program a.settings c.bounds.ensures a.ledger (c.self.invariant.legal c.if-self.false)

pub enter-requires-clause-stays : goal.enter-requires-clause-stays
enter-requires-clause-stays c =
    let a = c.self.inside.accounts in
    ledger_stays a.program a.settings c.bounds.ensures a.ledger (c.self.invariant.legal c.if-self.false) c.args.entry.kind (subst IsKind c.kind-kind.ensures.value c.kind-kind.ensures.range)

pub invariant_of-self : goal.invariant_of-self
invariant_of-self c = opened_after c.self.inside.accounts _ _ c.bounds.ensures c.self.invariant c.if-self.false c.args.entry c.in-Ok.ensures.none c.in-Ok.ensures.ok

pub invariant_of-self-in-Err : goal.invariant_of-self-in-Err
invariant_of-self-in-Err c = record { legal = λ e. absurd (false≢true (sym e)); agrees = λ e. absurd (false≢true (sym e)) }

pub enter-requires-clause-agrees : goal.enter-requires-clause-agrees
enter-requires-clause-agrees c = c.self.invariant.agrees c.if-self.false
