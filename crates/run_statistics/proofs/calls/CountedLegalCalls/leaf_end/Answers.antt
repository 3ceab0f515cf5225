use Rattle.run_statistics.proofs.Common.{Ok, sym, subst, SharedValue, end_entry, EndsLeaf, handed_on, CountsJournal}
use Rattle.run_statistics.proofs.EntryCounted.{is_made}
use Rattle.run_statistics.proofs.calls.CountedLegalCalls.leaf_end.Goals as goal

pub returns : goal.returns
returns c = subst (λ (z : SharedValue). EndsLeaf z c.leaf_end.new.self c.args.worker c.args.part.now c.leaf_end.new.part c.args.moved (Ok tt)) c.self.view_is c.in_ok-leaf_end.ensures

pub returns-in_err-leaf_end : goal.returns-in_err-leaf_end
returns-in_err-leaf_end c =
    handed_on (λ (z : SharedValue). EndsLeaf z c.leaf_end.new.self c.args.worker c.args.part.now c.leaf_end.new.part c.args.moved) c.self.inside.shared c.args.self.now c.self.view_is c.from_residual.result c.in_err-leaf_end.field-0.0 c.from_residual.ensures.1 c.in_err-leaf_end.ensures

pub count-requires : goal.count-requires
count-requires c = is_made c.self.inside.shared c.leaf_end.new.self c.self.inside.counts (end_entry c.args.worker c.args.part.now c.args.moved) 0 c.stands.ensures c.in_ok-leaf_end.ensures.enters (sym c.in_ok-leaf_end.ensures.refused) c.self.invariant tt

pub invariant_of-self : goal.invariant_of-self
invariant_of-self c = subst (λ (z : SharedValue). CountsJournal z c.self.inside.counts) (sym c.in_err-leaf_end.ensures.same) c.self.invariant
