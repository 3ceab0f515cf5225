-- One entry more, and one line more, of a table.
use Rattle.task_table.proofs.Common.{◌≡◌, ◌<◌, ◌+◌, ℕ, List, ◌++◌, length, drop, get_or, ap, sym, ◌∙◌, append_assoc, slice_get, drop_more, ProgramText, EntryValue, Ledger, after, BookValue, cut, TaskRow, rows_with, rows_from, task_row_line, task_row_lines}

module _ (journal : List EntryValue) (b b' : BookValue) (i : ℕ) (e : EntryValue) (lt : i < length journal) (is : e ≡ get_or journal i e) (eb : b' ≡ record b { ledger = after b.program b.settings b.ledger e }) where
  -- the rows behind the rest of a journal, also behind the entry
  pub rows_on : (p : ProgramText) (rows more all : List TaskRow) → b.program ≡ p
      → rows_from b.program b.settings b.ledger rows (drop i journal) ≡ all
      → more ≡ rows_with p b.ledger (after b.program b.settings b.ledger e) e rows
      → rows_from b'.program b'.settings b'.ledger more (drop (i + 1) journal) ≡ all
  rows_on p rows more all ep inv em =
      (λ j. rows_from (eb j).program (eb j).settings (eb j).ledger ((em ∙ (λ k. rows_with (sym ep k) b.ledger (after b.program b.settings b.ledger e) e rows)) j) (drop (i + 1) journal))
      ∙ ap (rows_from b.program b.settings b.ledger rows) (sym (cut b.program b.settings b.ledger 0 journal i e lt is))
      ∙ inv

-- the line of a row, and the lines behind it
pub lines_on : (p : ProgramText) (l : Ledger) (rows : List TaskRow) (i t : ℕ) (r : TaskRow) (now later all : List ℕ) → i < length rows → r ≡ get_or rows i r
    → now ++ task_row_lines p l t (drop i rows) ≡ all → later ≡ now ++ task_row_line p l t (slice_get l.machine.tasks t) r → later ++ task_row_lines p l (t + 1) (drop (i + 1) rows) ≡ all
lines_on p l rows i t r now later all lt is inv e =
    ap (λ x. x ++ task_row_lines p l (t + 1) (drop (i + 1) rows)) (e ∙ ap (λ x. now ++ task_row_line p l t (slice_get l.machine.tasks t) x) is)
    ∙ append_assoc now (task_row_line p l t (slice_get l.machine.tasks t) (get_or rows i r)) (task_row_lines p l (t + 1) (drop (i + 1) rows))
    ∙ ap (λ x. now ++ task_row_lines p l t x) (sym (drop_more rows i r lt))
    ∙ inv
