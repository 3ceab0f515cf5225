use Rattle.task_table.proofs.Common.{◌≡◌, ◌++◌, ◌+◌, Err, ap, length, subst, sym, ◌∙◌, IfErr, err_from_is_err_and, end_of, first_refused, opening, ledger_of, refused_as_run, BookValue, Reports, fails_whole, rows_from, first_line, task_row_lines, rows_of}
use Rattle.task_table.proofs.table.table_text.Goals as goal

pub returns-in_err-enter_all-clause-fails : goal.returns-in_err-enter_all-clause-fails
returns-in_err-enter_all-clause-fails c =
    let given = err_from_is_err_and c.from_residual-in_err-enter_all.result c.from_residual-in_err-enter_all.ensures.1 in
    subst (λ r. IfErr r (Reports (refused_as_run c.args.program.now c.args.settings c.args.journal.now))) (sym (given.1 ∙ ap Err given.2))
    (fails_whole (first_refused c.args.program.now c.args.settings c.args.journal.now) (end_of c.args.program.now c.args.settings c.args.journal.now) (length c.args.journal.now + 1) c.in_err-enter_all.field-0.0
    (subst (λ (b : BookValue). Reports (first_refused b.program b.settings c.args.journal.now) c.in_err-enter_all.field-0.0) c.in_ok-book.ensures c.in_err-enter_all.ensures.fails))

pub returns-clause-text : goal.returns-clause-text
returns-clause-text c =
    let p = c.args.program.now in
    let journal = c.args.journal.now in
    let ledger : c.enter_all.new.book.ledger ≡ ledger_of p c.args.settings journal =
    ap (λ (b : BookValue). b.ledger) c.in_ok-enter_all.ensures.book ∙ (λ j. ledger_of (c.in_ok-book.ensures j).program (c.in_ok-book.ensures j).settings journal) in
    let rows : c.as_slice.result.now ≡ rows_of p c.args.settings journal =
    c.as_slice.ensures ∙ c.in_ok-enter_all.ensures.rows
    ∙ (λ j. rows_from (c.in_ok-book.ensures j).program (c.in_ok-book.ensures j).settings (opening (c.in_ok-book.ensures j).program (c.in_ok-book.ensures j).settings) (c.in_ok-rows.ensures j) journal) in
    c.in_ok-text_of.ensures ∙ (λ j. first_line ++ task_row_lines p (ledger j) 0 (rows j))
