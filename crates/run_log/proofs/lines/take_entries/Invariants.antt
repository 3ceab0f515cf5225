use Rattle.run_log.proofs.Common.{◌≡◌, ◌++◌, drop, all_written, lines_from}
use Rattle.run_log.proofs.lines.take_entries.Given as goal

abbrev pub invariant-loop-entry : goal.invariant-loop-entry
invariant-loop-entry l = record {
  program : l.machine.program ≡ l.program;
  text :
      l.text.items ++ all_written (lines_from l.program l.machine.state (drop l.entry-index l.journal))
      ≡ l.fn.text.items ++ all_written (lines_from l.program l.fn.machine.state l.journal);
}
