use Rattle.run_statistics.proofs.Common.{Ok, sym, subst, Took, SharedValue, TakesTask, handed_on, CountsJournal}
use Rattle.run_statistics.proofs.EntryCounted.{is_made}
use Rattle.run_statistics.proofs.calls.CountedLegalCalls.took.Goals as goal

pub returns : goal.returns
returns c = subst (λ (z : SharedValue). TakesTask z c.took.new.self c.args.worker c.args.t (Ok c.in_ok-part.part)) c.self.view_is c.in_ok-part.ensures

pub returns-in_err-part : goal.returns-in_err-part
returns-in_err-part c =
    handed_on (λ (z : SharedValue). TakesTask z c.took.new.self c.args.worker c.args.t) c.self.inside.shared c.args.self.now c.self.view_is c.from_residual.result c.in_err-part.field-0.0 c.from_residual.ensures.1 c.in_err-part.ensures

pub count-requires : goal.count-requires
count-requires c = is_made c.self.inside.shared c.took.new.self c.self.inside.counts (record { worker = c.args.worker; kind = Took c.args.t }) 0 c.stands.ensures c.in_ok-part.ensures.enters (sym c.in_ok-part.ensures.refused) c.self.invariant tt

pub invariant_of-self : goal.invariant_of-self
invariant_of-self c = subst (λ (z : SharedValue). CountsJournal z c.self.inside.counts) (sym c.in_err-part.ensures.same) c.self.invariant
