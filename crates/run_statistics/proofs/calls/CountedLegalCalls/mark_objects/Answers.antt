use Rattle.run_statistics.proofs.Common.{Ok, sym, subst, More, SharedValue, MarksMore, handed_on, CountsJournal}
use Rattle.run_statistics.proofs.EntryCounted.{is_made}
use Rattle.run_statistics.proofs.calls.CountedLegalCalls.mark_objects.Goals as goal

pub returns : goal.returns
returns c = subst (λ (z : SharedValue). MarksMore z c.mark_objects.new.self c.args.worker c.args.t c.args.n (Ok c.in_ok-count.count)) c.self.view_is c.in_ok-count.ensures

pub returns-in_err-count : goal.returns-in_err-count
returns-in_err-count c =
    handed_on (λ (z : SharedValue). MarksMore z c.mark_objects.new.self c.args.worker c.args.t c.args.n) c.self.inside.shared c.args.self.now c.self.view_is c.from_residual.result c.in_err-count.field-0.0 c.from_residual.ensures.1 c.in_err-count.ensures

pub count-requires : goal.count-requires
count-requires c = is_made c.self.inside.shared c.mark_objects.new.self c.self.inside.counts (record { worker = c.args.worker; kind = More c.args.t c.args.n }) 0 c.stands.ensures c.in_ok-count.ensures.enters (sym c.in_ok-count.ensures.refused) c.self.invariant tt

pub invariant_of-self : goal.invariant_of-self
invariant_of-self c = subst (λ (z : SharedValue). CountsJournal z c.self.inside.counts) (sym c.in_err-count.ensures.same) c.self.invariant
