use Rattle.turn_entries.proofs.Common.{Some, ap, sym, subst, true, false, Begin, PutOff, WorkerPartFits, due_kind}
use Rattle.turn_entries.proofs.Coming.{acts_same, due_begins, due_waits, enough_is}
use Rattle.turn_entries.proofs.run.Run.collect.Goals as goal

pub pool_enough-requires-clause-out : goal.pool_enough-requires-clause-out
pool_enough-requires-clause-out g c = (c.args.worker, subst (WorkerPartFits (g.P.EntryCalls.value c.args.self.now.paced) c.args.worker) (sym c.get.ensures) c.requires.paused.may.fits)

pub begin_leaf-requires-clause-enough : goal.begin_leaf-requires-clause-enough
begin_leaf-requires-clause-enough g c = enough_is (g.P.EntryCalls.value c.args.self.now.paced) c.args.part c.get.result.now c.pool_enough.result true c.get.ensures c.pool_enough.ensures c.if-pool_enough.true

pub put_off_leaf-requires-clause-short : goal.put_off_leaf-requires-clause-short
put_off_leaf-requires-clause-short g c = enough_is (g.P.EntryCalls.value c.args.self.now.paced) c.args.part c.get.result.now c.pool_enough.result false c.get.ensures c.pool_enough.ensures c.if-pool_enough.false

pub returns-then-pool_enough : goal.returns-then-pool_enough
returns-then-pool_enough g c = λ ready.
    let enough = enough_is (g.P.EntryCalls.value c.args.self.now.paced) c.args.part c.get.result.now c.pool_enough.result true c.get.ensures c.pool_enough.ensures c.if-pool_enough.true in
    acts_same (g.P.EntryCalls.value c.args.self.now.paced) (g.P.EntryCalls.value c.begin_leaf.new.self.paced) c.args.worker ready c.begin_leaf.result (Some (due_kind (g.P.EntryCalls.value c.args.self.now.paced) c.args.part.task)) (Some (Begin c.args.part.task)) (ap Some (due_begins (g.P.EntryCalls.value c.args.self.now.paced) c.args.part.task enough)) (c.begin_leaf.ensures ready)

pub returns-else-pool_enough : goal.returns-else-pool_enough
returns-else-pool_enough g c = λ ready.
    let short = enough_is (g.P.EntryCalls.value c.args.self.now.paced) c.args.part c.get.result.now c.pool_enough.result false c.get.ensures c.pool_enough.ensures c.if-pool_enough.false in
    acts_same (g.P.EntryCalls.value c.args.self.now.paced) (g.P.EntryCalls.value c.put_off_leaf.new.self.paced) c.args.worker ready c.put_off_leaf.result (Some (due_kind (g.P.EntryCalls.value c.args.self.now.paced) c.args.part.task)) (Some (PutOff c.args.part.task)) (ap Some (due_waits (g.P.EntryCalls.value c.args.self.now.paced) c.args.part.task short)) (c.put_off_leaf.ensures ready)
