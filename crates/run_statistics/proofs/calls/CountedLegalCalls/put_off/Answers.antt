use Rattle.run_statistics.proofs.Common.{Ok, sym, subst, PutOff, SharedValue, WorkerPartFits, PutsOff, handed_on, CountsJournal}
use Rattle.run_statistics.proofs.EntryCounted.{is_made}
use Rattle.run_statistics.proofs.calls.CountedLegalCalls.put_off.Goals as goal

pub put_off-requires-clause-fits : goal.put_off-requires-clause-fits
put_off-requires-clause-fits c = subst (λ (z : SharedValue). WorkerPartFits z c.args.worker c.args.part.now) (sym c.self.view_is) c.requires.fits

pub returns : goal.returns
returns c = subst (λ (z : SharedValue). PutsOff z c.put_off.new.self c.args.worker c.args.part.now c.put_off.new.part (Ok tt)) c.self.view_is c.in_ok-put_off.ensures

pub returns-in_err-put_off : goal.returns-in_err-put_off
returns-in_err-put_off c =
    handed_on (λ (z : SharedValue). PutsOff z c.put_off.new.self c.args.worker c.args.part.now c.put_off.new.part) c.self.inside.shared c.args.self.now c.self.view_is c.from_residual.result c.in_err-put_off.field-0.0 c.from_residual.ensures.1 c.in_err-put_off.ensures

pub count-requires : goal.count-requires
count-requires c = is_made c.self.inside.shared c.put_off.new.self c.self.inside.counts (record { worker = c.args.worker; kind = PutOff c.args.part.now.task }) 0 c.stands.ensures c.in_ok-put_off.ensures.enters (sym c.in_ok-put_off.ensures.refused) c.self.invariant tt

pub invariant_of-self : goal.invariant_of-self
invariant_of-self c = subst (λ (z : SharedValue). CountsJournal z c.self.inside.counts) (sym c.in_err-put_off.ensures.same) c.self.invariant
