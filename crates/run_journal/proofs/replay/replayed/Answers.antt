use Rattle.run_journal.proofs.Common.{subst, first_refused_from, BookValue, Reports}
use Rattle.run_journal.proofs.replay.replayed.Goals as goal

pub returns-in-Err-clause-fails : goal.returns-in-Err-clause-fails
returns-in-Err-clause-fails c =
    subst (λ (b : BookValue). Reports (first_refused_from b.program b.settings b.ledger 1 c.args.journal.now) c.in-Err.error) c.in_ok-book.ensures c.in-Err.ensures.fails
