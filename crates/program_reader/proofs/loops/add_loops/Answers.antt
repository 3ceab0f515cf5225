use Rattle.std.proofs.Common.{◌<◌, length, arith, ◌∙◌}
use Rattle.program_reader.proofs.LoopFunctions.{loop_more}
use Rattle.program_reader.proofs.loops.add_loops.Goals as goal

pub loop-place-preserved : goal.loop-place-preserved
loop-place-preserved c =
    let lt : c.loop-place.place < length c.args.outline.now.loops = omega arith in
    loop_more c.args.outline.now c.loop-place.functions c.add_loop.new.functions c.loop-place.place lt c.in_ok-add_loop.ensures ∙ c.loop-place.invariant
