use Rattle.run_timeline.proofs.Common.{codes, on_ok_weaker, arguments, one_number, end_time}
use Rattle.run_timeline.proofs.Made.{one_made, event_made}
use Rattle.run_timeline.proofs.tasks.add_counter.Goals as goal

pub returns : goal.returns
returns c =
    on_ok_weaker c.end_arguments.result
    (λ e. event_made c.args.drawn.now.name.now (codes "pool") (codes "C") (end_time c.args.number) 0 (arguments (one_number c.args.drawn.now.unit.now c.args.now))
    c.args.writer.now.text.items c.add_comma.new.self.text.items c.begin_event.new.self.text.items c.end_arguments.new.self.text.items c.in_ok-add_comma.ensures c.in_ok-begin_event.ensures
    (one_made c.args.drawn.now.unit.now c.args.now c.begin_event.new.self.text.items c.begin_arguments.new.self.text.items c.first_number.new.text.items c.end_arguments.new.self.text.items
    c.in_ok-begin_arguments.ensures c.in_ok-first_number.ensures e))
    c.end_arguments.ensures
