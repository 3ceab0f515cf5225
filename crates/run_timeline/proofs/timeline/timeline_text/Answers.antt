use Rattle.run_timeline.proofs.Common.{◌++◌, ◌+◌, Err, ap, subst, sym, length, ◌∙◌, IfErr, flat_map, err_from_is_err_and, further, end_of, first_refused, refused_as_run, BookValue, Reports, events_of, beginning, event_ending}
use Rattle.run_timeline.proofs.Loops.{timeline_made, fails_whole}
use Rattle.run_timeline.proofs.timeline.timeline_text.Goals as goal

pub returns-in_err-enter_all-clause-fails : goal.returns-in_err-enter_all-clause-fails
returns-in_err-enter_all-clause-fails c =
    let given = err_from_is_err_and c.from_residual-in_err-enter_all.result c.from_residual-in_err-enter_all.ensures.1 in
    subst (λ r. IfErr r (Reports (refused_as_run c.args.program.now c.args.settings c.args.journal.now))) (sym (given.1 ∙ ap Err given.2))
    (fails_whole (first_refused c.args.program.now c.args.settings c.args.journal.now) (end_of c.args.program.now c.args.settings c.args.journal.now) (length c.args.journal.now + 1) c.in_err-enter_all.field-0.0
    (subst (λ (b : BookValue). Reports (first_refused b.program b.settings c.args.journal.now) c.in_err-enter_all.field-0.0) c.in_ok-book.ensures c.in_err-enter_all.ensures.fails))

pub returns-clause-text : goal.returns-clause-text
returns-clause-text c =
    c.in_ok-end.ensures
    ∙ ap (λ x. x ++ event_ending)
    (c.in_ok-enter_all.ensures.events
    ∙ (λ j. (c.in_ok-writer.ensures ∙ ap beginning c.workers.ensures.value) j ++ flat_map further (events_of (c.in_ok-book.ensures j).program (c.in_ok-book.ensures j).settings c.args.journal.now)))
    ∙ timeline_made c.args.program.now c.args.settings c.args.journal.now
