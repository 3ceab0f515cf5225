use Rattle.run_journal.proofs.Common.{◌∙◌, ap, BookValue}
use Rattle.run_journal.proofs.book.Book.in_use.Goals as goal

pub in_use-requires : goal.in_use-requires
in_use-requires c = c.self.invariant.agrees (ap (λ (o : BookValue). o.stopped) c.self.view_is ∙ c.requires)
