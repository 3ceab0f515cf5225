use Rattle.run_statistics.proofs.Common.{Ok, sym, subst, Ran, SharedValue, WorkerPartFits, EntersSteps, handed_on, CountsJournal}
use Rattle.run_statistics.proofs.EntryCounted.{is_made}
use Rattle.run_statistics.proofs.calls.CountedLegalCalls.ran_private.Goals as goal

pub ran_private-requires-clause-fits : goal.ran_private-requires-clause-fits
ran_private-requires-clause-fits c = subst (λ (z : SharedValue). WorkerPartFits z c.args.worker c.args.part.now) (sym c.self.view_is) c.requires.fits

pub returns : goal.returns
returns c = subst (λ (z : SharedValue). EntersSteps z c.ran_private.new.self c.args.worker c.args.part.now c.ran_private.new.part (Ok tt)) c.self.view_is c.in_ok-ran_private.ensures

pub returns-in_err-ran_private : goal.returns-in_err-ran_private
returns-in_err-ran_private c =
    handed_on (λ (z : SharedValue). EntersSteps z c.ran_private.new.self c.args.worker c.args.part.now c.ran_private.new.part) c.self.inside.shared c.args.self.now c.self.view_is c.from_residual.result c.in_err-ran_private.field-0.0 c.from_residual.ensures.1 c.in_err-ran_private.ensures

pub count-requires : goal.count-requires
count-requires c = is_made c.self.inside.shared c.ran_private.new.self c.self.inside.counts (record { worker = c.args.worker; kind = Ran c.args.part.now.task c.args.part.now.fresh }) 0 c.stands.ensures c.in_ok-ran_private.ensures.enters (sym c.in_ok-ran_private.ensures.refused) c.self.invariant tt

pub invariant_of-self : goal.invariant_of-self
invariant_of-self c = subst (λ (z : SharedValue). CountsJournal z c.self.inside.counts) (sym c.in_err-ran_private.ensures.same) c.self.invariant
