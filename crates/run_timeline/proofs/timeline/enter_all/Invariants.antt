use Rattle.run_timeline.proofs.Common.{◌≡◌, ◌+◌, ◌++◌, drop, false, flat_map, after_all, ledger_of, first_refused_from, first_refused, further, words_held, events_from, events_of}
use Rattle.run_timeline.proofs.timeline.enter_all.Given as goal

abbrev pub invariant-loop-entry : goal.invariant-loop-entry
invariant-loop-entry l = record {
  program : l.book.program ≡ l.fn.book.program;
  settings : l.book.settings ≡ l.fn.book.settings;
  stopped : l.book.stopped ≡ false;
  index : l.index ≡ l.entry-index + 1;
  held : l.held ≡ words_held l.book.ledger;
  accounts : after_all l.book.program l.book.settings l.book.ledger (drop l.entry-index l.journal) ≡ ledger_of l.book.program l.book.settings l.journal;
  refused : first_refused_from l.book.program l.book.settings l.book.ledger l.index (drop l.entry-index l.journal) ≡ first_refused l.book.program l.book.settings l.journal;
  text :
      l.writer.text.items ++ flat_map further (events_from l.book.program l.book.settings l.book.ledger l.index (drop l.entry-index l.journal))
      ≡ l.fn.writer.text.items ++ flat_map further (events_of l.fn.book.program l.fn.book.settings l.journal);
}
