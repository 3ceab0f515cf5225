use Rattle.std.proofs.Common.{◌∙◌}
use Rattle.run_log.proofs.Entries.{one_step, one_step_written}
use Rattle.run_log.proofs.lines.take_steps.Goals as goal

pub loop-i-preserved : goal.loop-i-preserved
loop-i-preserved c =
    let p = c.args.program.now in
    let m = c.args.machine.now.state in
    let i = c.loop-i.i in
    let before = c.loop-i.machine.state in
    let held = c.loop-i.invariant in
    let step = c.in_ok-take_step.ensures in
    record {
      program = c.take_step.ensures.program ∙ held.program;
      state = one_step p m c.args.t i before c.take_step.new.machine.state held.state step.state;
      text = one_step_written p m c.args.t i c.args.text.now.items c.loop-i.text.items c.take_step.new.text.items before held.state held.text step.text;
    }
