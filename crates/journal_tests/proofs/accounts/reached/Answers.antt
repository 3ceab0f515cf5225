use Rattle.journal_tests.proofs.accounts.reached.Goals as goal

pub within-requires : goal.within-requires
within-requires c = c.are_owned.ensures.0 c.if-not-are_owned.false
