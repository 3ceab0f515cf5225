use Rattle.fault_lines.proofs.Pieces.{more_shown}
use Rattle.fault_lines.proofs.json.further_text.Goals as goal

pub loop-fault-preserved : goal.loop-fault-preserved
loop-fault-preserved c =
    more_shown c.args.faults.now c.loop-fault.fault-index c.fault-item.result c.loop-fault.text.items c.add_further.new.text.items c.loop-fault-test.true c.fault-item.is c.loop-fault.invariant c.in_ok-add_further.ensures
