use Rattle.task_table.proofs.Common.{◌≡◌, ◌++◌, drop, task_row_lines}
use Rattle.task_table.proofs.table.add_rows.Given as goal

abbrev pub invariant-loop-row : goal.invariant-loop-row
invariant-loop-row l =
    record {
      place : l.number ≡ l.row-index;
      text : l.text.items ++ task_row_lines l.program l.book.ledger l.number (drop l.row-index l.rows) ≡ l.fn.text.items ++ task_row_lines l.program l.book.ledger 0 l.rows;
    }
