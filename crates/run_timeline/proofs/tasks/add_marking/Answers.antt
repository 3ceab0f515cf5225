use Rattle.run_timeline.proofs.Common.{on_ok_weaker, marking}
use Rattle.run_timeline.proofs.Loops.{one_told}
use Rattle.run_timeline.proofs.tasks.add_marking.Goals as goal

pub returns : goal.returns
returns c = on_ok_weaker c.add_span.result (one_told (marking c.args.phase.now c.args.task c.args.place.number c.args.place.lane) c.args.writer.now.text.items c.add_span.new.self.text.items) c.add_span.ensures
