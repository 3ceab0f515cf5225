use Rattle.std.proofs.Common.{arith, ap, length}
use Rattle.memory_scenes.proofs.Checks.{closed_from}
use Rattle.memory_scenes.proofs.cells.is_fit_heap.Goals as goal

pub returns : goal.returns
returns c = λ h. closed_from c.args.heap.now.chunks (λ k d lt. c.loop-chunk.invariant k d (let t = c.loop-chunk-test.false in let e = ap length c.chunks-chunk-items.ensures.chunks in omega arith))
