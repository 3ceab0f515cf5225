use Rattle.run_statistics.proofs.Common.{Ok, sym, subst, Mark, SharedValue, BeginsMarking, handed_on, CountsJournal}
use Rattle.run_statistics.proofs.EntryCounted.{is_made}
use Rattle.run_statistics.proofs.calls.CountedLegalCalls.mark.Goals as goal

pub returns : goal.returns
returns c = subst (λ (z : SharedValue). BeginsMarking z c.mark.new.self c.args.worker c.args.t (Ok tt)) c.self.view_is c.in_ok-mark.ensures

pub returns-in_err-mark : goal.returns-in_err-mark
returns-in_err-mark c =
    handed_on (λ (z : SharedValue). BeginsMarking z c.mark.new.self c.args.worker c.args.t) c.self.inside.shared c.args.self.now c.self.view_is c.from_residual.result c.in_err-mark.field-0.0 c.from_residual.ensures.1 c.in_err-mark.ensures

pub count-requires : goal.count-requires
count-requires c = is_made c.self.inside.shared c.mark.new.self c.self.inside.counts (record { worker = c.args.worker; kind = Mark c.args.t }) 0 c.stands.ensures c.in_ok-mark.ensures.enters c.in_ok-mark.ensures.refused c.self.invariant tt

pub invariant_of-self : goal.invariant_of-self
invariant_of-self c = subst (λ (z : SharedValue). CountsJournal z c.self.inside.counts) (sym c.in_err-mark.ensures.same) c.self.invariant
