use Rattle.run_timeline.proofs.Common.{◌++◌, ◌-◌, ℕ, ap, ap₂, ◌∙◌, codes, on_ok_weaker, Number, Member, arguments, end_time, numbers_of, event_head, further, slice}
use Rattle.run_timeline.proofs.Made.{timed_made, event_made}
use Rattle.run_timeline.proofs.entry.add_slice.Goals as goal

pub returns : goal.returns
returns c =
    on_ok_weaker c.end_arguments.result
    (λ e. event_made c.args.name.now (codes "entry") (codes "X") (end_time (c.args.number - 1)) c.worker.result (Member (codes "dur") (Number 1000) (arguments (numbers_of c.kind.result)))
    c.args.writer.now.text.items c.add_comma.new.self.text.items c.begin_event.new.self.text.items c.end_arguments.new.self.text.items c.in_ok-add_comma.ensures
    (c.in_ok-begin_event.ensures ∙ ap (λ (k : ℕ). c.add_comma.new.self.text.items ++ event_head c.args.name.now (codes "entry") (codes "X") (end_time k) c.worker.result) c.saturating_sub.ensures)
    (timed_made 1000 (numbers_of c.kind.result) c.begin_event.new.self.text.items c.more_number.new.text.items c.begin_arguments.new.self.text.items c.add_numbers.new.writer.text.items c.end_arguments.new.self.text.items
    c.in_ok-more_number.ensures c.in_ok-begin_arguments.ensures c.in_ok-add_numbers.ensures e)
    ∙ ap₂ (λ w k. c.args.writer.now.text.items ++ further (slice c.args.name.now c.args.number (record { worker = w; kind = k }))) c.worker.ensures.value c.kind.ensures.value)
    c.end_arguments.ensures
