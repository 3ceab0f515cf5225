use Rattle.run_timeline.proofs.Common.{ap, ◌∙◌, slice_get, on_ok_weaker, fork_line}
use Rattle.run_timeline.proofs.Loops.{first_told}
use Rattle.run_timeline.proofs.tasks.add_first_taken.Goals as goal

pub returns : goal.returns
returns c =
    rw c.in-Some.is
    (on_ok_weaker c.end_arrow.result
    (first_told c.args.task c.in-Some.parent c.fork_line-line.result (fork_line c.args.context.now.program.now (slice_get c.args.context.now.state.now.tasks c.in-Some.parent)) c.args.context.now.place.number c.args.context.now.place.lane
    c.as_bytes.result.now c.args.writer.now.text.items c.begin_span.new.self.text.items c.add_fork.new.writer.text.items c.end_arrow.new.self.text.items
    (c.as_bytes.ensures.value ∙ c.in_ok-name.ensures)
    (c.fork_line-line.ensures ∙ ap (fork_line c.args.context.now.program.now) c.get.ensures)
    c.in_ok-begin_span-in-Some.ensures c.in_ok-add_fork-in-Some.ensures)
    c.end_arrow.ensures)
