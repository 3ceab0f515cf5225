use Rattle.run_timeline.proofs.Common.{on_ok_weaker, NoMember}
use Rattle.run_timeline.proofs.Made.{span_made}
use Rattle.run_timeline.proofs.events.EventWriter.add_span.Goals as goal

pub returns : goal.returns
returns c =
    on_ok_weaker c.end_event.result
    (span_made c.args.label.now.phase.now c.args.label.now.name.now c.args.label.now.category.now c.args.id c.args.place.number c.args.place.lane NoMember c.args.self.now.text.items c.begin_span.new.self.text.items c.end_event.new.self.text.items
    c.in_ok-begin_span.ensures)
    c.end_event.ensures
