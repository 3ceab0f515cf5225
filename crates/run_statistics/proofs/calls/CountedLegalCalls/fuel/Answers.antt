use Rattle.run_statistics.proofs.Common.{Ok, sym, subst, Fuel, SharedValue, EndsForFuel, handed_on, CountsJournal}
use Rattle.run_statistics.proofs.EntryCounted.{is_made}
use Rattle.run_statistics.proofs.calls.CountedLegalCalls.fuel.Goals as goal

pub returns : goal.returns
returns c = subst (λ (z : SharedValue). EndsForFuel z c.fuel.new.self c.args.worker (Ok tt)) c.self.view_is c.in_ok-fuel.ensures

pub returns-in_err-fuel : goal.returns-in_err-fuel
returns-in_err-fuel c =
    handed_on (λ (z : SharedValue). EndsForFuel z c.fuel.new.self c.args.worker) c.self.inside.shared c.args.self.now c.self.view_is c.from_residual.result c.in_err-fuel.field-0.0 c.from_residual.ensures.1 c.in_err-fuel.ensures

pub count-requires : goal.count-requires
count-requires c = is_made c.self.inside.shared c.fuel.new.self c.self.inside.counts (record { worker = c.args.worker; kind = Fuel }) 0 c.stands.ensures c.in_ok-fuel.ensures.enters (sym c.in_ok-fuel.ensures.refused) c.self.invariant tt

pub invariant_of-self : goal.invariant_of-self
invariant_of-self c = subst (λ (z : SharedValue). CountsJournal z c.self.inside.counts) (sym c.in_err-fuel.ensures.same) c.self.invariant
