use Rattle.gc_pacer.proofs.Common.{sym, subst, WorkerPartFits, SharedValue}
use Rattle.gc_pacer.proofs.calls.PacedEntryCalls.pool_enough.Goals as goal

pub pool_enough-requires-clause-out : goal.pool_enough-requires-clause-out
pool_enough-requires-clause-out c = (c.requires.out.0, subst (λ (z : SharedValue). WorkerPartFits z c.requires.out.0 c.args.part.now) (sym c.shared.ensures) c.requires.out.1)
