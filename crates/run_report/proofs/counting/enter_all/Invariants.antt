use Rattle.run_report.proofs.Common.{◌≡◌, ◌+◌, drop, false, after_all, ledger_of, first_refused_from, first_refused}
use Rattle.run_report.proofs.Sums.{IsAt}
use Rattle.run_report.proofs.counting.enter_all.Given as goal

abbrev pub invariant-loop-entry : goal.invariant-loop-entry
invariant-loop-entry l = record {
  program : l.book.program ≡ l.fn.book.program;
  settings : l.book.settings ≡ l.fn.book.settings;
  stopped : l.book.stopped ≡ false;
  index : l.index ≡ l.entry-index + 1;
  accounts : after_all l.book.program l.book.settings l.book.ledger (drop l.entry-index l.journal) ≡ ledger_of l.book.program l.book.settings l.journal;
  refused : first_refused_from l.book.program l.book.settings l.book.ledger l.index (drop l.entry-index l.journal) ≡ first_refused l.book.program l.book.settings l.journal;
  at : IsAt l.journal l.book l.entry-index l.totals;
}
