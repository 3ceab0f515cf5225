use Rattle.run_timeline.proofs.Common.{◌≡◌, ◌++◌, ◌∙◌, flat_map, further, slice_name, entry_events}
use Rattle.run_timeline.proofs.timeline.enter.Goals as goal

pub returns-clause-events : goal.returns-clause-events
returns-clause-events c =
    let p = c.args.program.now in
    let named : c.as_slice.result.now ≡ slice_name p c.args.book.now.ledger.machine c.args.entry.kind =
    c.as_slice.ensures.value ∙ (c.in_ok-name.ensures ∙ (λ j. slice_name p (c.state.ensures j) (c.kind.ensures.value j))) in
    c.in_ok-add_entered.ensures
    ∙ (λ j. c.args.writer.now.text.items ++ flat_map further (entry_events p (named j) (record { tasks = c.tasks.ensures j; chunks = c.in_use.ensures j; words = c.requires.held j }) (c.in_ok-words.ensures.entered j).ledger c.args.progress.number c.args.entry))
