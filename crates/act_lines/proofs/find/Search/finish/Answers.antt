use Rattle.std.proofs.Common.{arith}
use Rattle.act_lines.proofs.Searching.{all_found}
use Rattle.act_lines.proofs.find.Search.finish.Goals as goal

pub returns : goal.returns
returns c = λ seen h.
    all_found c.args.numbers.now seen c.loop-found.found (omega (arith, c.len.ensures, c.loop-found-test.false)) (c.loop-found.invariant seen h)
