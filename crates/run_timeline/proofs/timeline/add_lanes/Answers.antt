use Rattle.run_timeline.proofs.Loops.{lanes_more}
use Rattle.run_timeline.proofs.timeline.add_lanes.Goals as goal

pub loop-worker-preserved : goal.loop-worker-preserved
loop-worker-preserved c = lanes_more c.loop-worker.worker c.args.writer.now.text.items c.loop-worker.writer.text.items c.add_lane.new.self.text.items c.loop-worker.invariant c.in_ok-add_lane.ensures
