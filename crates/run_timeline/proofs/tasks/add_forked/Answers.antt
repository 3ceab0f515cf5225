use Rattle.std.proofs.lemmas.Result.{on_ok_weaker}
use Rattle.run_timeline.proofs.Loops.{forked_told}
use Rattle.run_timeline.proofs.tasks.add_forked.Goals as goal

pub returns : goal.returns
returns c =
    on_ok_weaker c.begin_arrow-2.result
    (forked_told c.args.made c.args.now c.args.place.number c.args.place.lane c.args.writer.now.text.items c.begin_arrow.new.self.text.items c.begin_arrow-2.new.self.text.items c.if-now-made.false c.in_ok-begin_arrow.ensures)
    c.begin_arrow-2.ensures
