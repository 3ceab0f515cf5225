use Rattle.turn_entries.proofs.Common.{arith, Chunk}
use Rattle.turn_entries.proofs.Coming.{acts_at_once, acts_fresh}
use Rattle.turn_entries.proofs.run.Run.enter_need.Goals as goal

pub returns-then-fresh-gt0 : goal.returns-then-fresh-gt0
returns-then-fresh-gt0 g c = λ ready.
    let some = c.if-fresh-gt0.true in
    acts_fresh (g.P.EntryCalls.value c.args.self.now.paced) (g.P.EntryCalls.value c.enter_private.new.self.paced) c.args.worker c.args.part c.enter_private.result ready (Chunk c.args.part.task) (omega (arith, some)) (c.enter_private.ensures ready)

pub returns-else-fresh-gt0 : goal.returns-else-fresh-gt0
returns-else-fresh-gt0 g c = λ ready.
    let none = c.if-fresh-gt0.false in
    acts_at_once (g.P.EntryCalls.value c.args.self.now.paced) (g.P.EntryCalls.value c.enter_chunk.new.self.paced) c.args.worker c.args.part c.enter_chunk.result ready (Chunk c.args.part.task) (omega (arith, none)) (c.enter_chunk.ensures ready)
