use Rattle.std.proofs.Common.{arith}
use Rattle.program_make.proofs.Functions.{one_more, all_of}
use Rattle.program_make.proofs.whole.functions.Goals as goal

pub loop-number-preserved : goal.loop-number-preserved
loop-number-preserved c = one_more _ _ _ _ _ _ _ _ (omega arith) c.loop-number.invariant.0 c.loop-number.invariant.1 c.in_ok-add_function.ensures.added c.add_function.ensures.moved

pub returns : goal.returns
returns c = all_of c.args.seed c.args.size c.loop-number.number _ (omega (arith, c.loop-number.auto.number-end, c.loop-number-test.false)) c.loop-number.invariant.0
