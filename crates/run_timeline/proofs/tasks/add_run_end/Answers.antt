use Rattle.run_timeline.proofs.Common.{◌∙◌, on_ok_weaker, end_name, end_members}
use Rattle.run_timeline.proofs.Loops.{end_told, without_feed}
use Rattle.run_timeline.proofs.tasks.add_run_end.Goals as goal

pub returns : goal.returns
returns c =
    on_ok_weaker c.end_event.result
    (end_told (end_name c.args.end) c.end_name.result.now c.args.context.now.place.number c.args.context.now.place.lane (end_members c.args.context.now.program.now c.args.context.now.state.now c.args.end) c.args.writer.now.text.items
    c.add_comma.new.self.text.items c.begin_event.new.self.text.items c.more_word.new.text.items c.add_end_members.new.writer.text.items c.end_event.new.self.text.items
    (c.end_name.ensures ∙ without_feed c.as_bytes.result.now (end_name c.args.end) (c.as_bytes.ensures.value ∙ c.in_ok-line.ensures))
    c.in_ok-add_comma.ensures c.in_ok-begin_event.ensures c.in_ok-more_word.ensures c.in_ok-add_end_members.ensures)
    c.end_event.ensures
