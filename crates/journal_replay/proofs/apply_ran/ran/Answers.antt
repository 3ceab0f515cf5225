use Rattle.journal_replay.proofs.Common.{subst, sym, Private, WorkerPartFits, same_world, PausesNext}
use Rattle.journal_replay.proofs.Making.{stopped_part}
use Rattle.journal_replay.proofs.apply_ran.ran.Goals as goal

pub enter-requires-clause-fits : goal.enter-requires-clause-fits
enter-requires-clause-fits g c = subst (λ (p : Private). WorkerPartFits (g.S.LegalCalls.value c.args.shared.now) c.args.worker p) (sym c.settle_before_fork.ensures) c.run_part.ensures.fits

pub enter-requires-clause-next : goal.enter-requires-clause-next
enter-requires-clause-next g c = subst (λ (p : Private). PausesNext (g.S.LegalCalls.value c.args.shared.now) p c.in-Ok.paused) (sym c.settle_before_fork.ensures) c.in-Ok.ensures.next

pub returns-in-Err : goal.returns-in-Err
returns-in-Err g c = record {
  same = same_world (g.S.LegalCalls.value c.args.shared.now);
  still = λ k p F. F;
  holds = stopped_part (g.S.LegalCalls.value c.args.shared.now) c.args.worker c.run_part.new.part c.run_part.ensures.fits c.run_part.ensures.idle;
}
