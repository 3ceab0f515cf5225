use Rattle.run_journal.proofs.Common.{◌≡◌, ◌+◌, drop, false, after_all, first_refused_from}
use Rattle.run_journal.proofs.replay.enter_all.Given as goal

abbrev pub invariant-loop-entry : goal.invariant-loop-entry
invariant-loop-entry l = record {
  program : l.book.program ≡ l.fn.book.program;
  settings : l.book.settings ≡ l.fn.book.settings;
  stopped : l.book.stopped ≡ false;
  index : l.index ≡ l.entry-index + 1;
  accounts : after_all l.book.program l.book.settings l.book.ledger (drop l.entry-index l.journal) ≡ after_all l.book.program l.book.settings l.fn.book.ledger l.journal;
  refused : first_refused_from l.book.program l.book.settings l.book.ledger l.index (drop l.entry-index l.journal) ≡ first_refused_from l.book.program l.book.settings l.fn.book.ledger 1 l.journal;
}
