use Rattle.run_timeline.proofs.Common.{◌≡◌, ◌++◌, ap, ◌∙◌, flat_map, on_ok_weaker, further, in_use, words_held, slice, begins_and_ends, chunks_counted, words_counted, run_ended}
use Rattle.run_timeline.proofs.Loops.{entered_told}
use Rattle.run_timeline.proofs.timeline.add_entered.Goals as goal

pub returns : goal.returns
returns c =
    let p = c.args.program.now in
    let l = c.args.book.now.ledger in
    let name = c.args.entered.now.name.now in
    let n = c.args.entered.now.number in
    let e = c.args.entered.now.entry in
    let was = c.args.entered.now.was in
    on_ok_weaker c.add_run_ended.result
    (λ (h : c.add_run_ended.new.writer.text.items ≡ c.add_counted-2.new.writer.text.items ++ flat_map further (run_ended p c.state.result.now n c.worker.result c.end.result)).
    entered_told (slice name n e) (begins_and_ends p was.tasks l.machine n e.worker e.kind) (chunks_counted was.chunks (in_use l) n) (words_counted was.words (words_held l) n) (run_ended p l.machine n e.worker l.end)
    c.args.writer.now.text.items c.add_slice.new.writer.text.items c.add_begins_and_ends.new.writer.text.items c.add_counted.new.writer.text.items c.add_counted-2.new.writer.text.items c.add_run_ended.new.writer.text.items
    c.in_ok-add_slice.ensures
    (c.in_ok-add_begins_and_ends.ensures ∙ (λ j. c.add_slice.new.writer.text.items ++ flat_map further (begins_and_ends p was.tasks (c.state.ensures j) n (c.worker.ensures.value j) (c.kind.ensures.value j))))
    (c.in_ok-add_counted.ensures ∙ ap (λ u. c.add_begins_and_ends.new.writer.text.items ++ flat_map further (chunks_counted was.chunks u n)) c.in_use.ensures)
    (c.in_ok-add_counted-2.ensures ∙ ap (λ u. c.add_counted.new.writer.text.items ++ flat_map further (words_counted was.words u n)) c.requires.held)
    (h ∙ (λ j. c.add_counted-2.new.writer.text.items ++ flat_map further (run_ended p (c.state.ensures j) n (c.worker.ensures.value j) (c.end.ensures j)))))
    c.add_run_ended.ensures
