use Rattle.run_page.proofs.Common.{◌≡◌, ◌++◌, drop, entries_from}
use Rattle.run_page.proofs.page.add_entries.Given as goal

abbrev pub invariant-loop-of : goal.invariant-loop-of
invariant-loop-of l = record {
  program : l.machine.program ≡ l.program;
  state : l.machine.state ≡ l.book.ledger.machine;
  same : l.book.program ≡ l.program;
  settings : l.book.settings ≡ l.fn.book.settings;
  text :
      l.text.items ++ entries_from l.program l.book.settings l.book.ledger (drop l.of-index l.journal)
      ≡ l.fn.text.items ++ entries_from l.program l.fn.book.settings l.fn.book.ledger l.journal;
}
