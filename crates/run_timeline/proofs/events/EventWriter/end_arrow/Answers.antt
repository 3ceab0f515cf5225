use Rattle.std.proofs.lemmas.Result.{on_ok_weaker}
use Rattle.run_timeline.proofs.Made.{ends_made}
use Rattle.run_timeline.proofs.events.EventWriter.end_arrow.Goals as goal

pub returns : goal.returns
returns c =
    on_ok_weaker c.end_event.result
    (ends_made c.args.name.now c.args.id c.args.place.number c.args.place.lane c.args.self.now.text.items c.add_comma.new.self.text.items c.begin_event.new.self.text.items c.more_number.new.text.items c.more_word.new.text.items
    c.end_event.new.self.text.items c.in_ok-add_comma.ensures c.in_ok-begin_event.ensures c.in_ok-more_number.ensures c.in_ok-more_word.ensures)
    c.end_event.ensures
