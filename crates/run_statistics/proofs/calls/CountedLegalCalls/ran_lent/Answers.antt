use Rattle.run_statistics.proofs.Common.{Ok, sym, subst, Private, SharedValue, WorkerPartFits, alone_entry, IsShared, EntersLent, LeavesPart, LentTo, handed_on, CountsJournal}
use Rattle.run_statistics.proofs.EntryCounted.{is_made, lent_enters, unchanged_kept}
use Rattle.run_statistics.proofs.calls.CountedLegalCalls.ran_lent.Goals as goal

pub ran_lent-requires-clause-fits : goal.ran_lent-requires-clause-fits
ran_lent-requires-clause-fits c = subst (λ (z : SharedValue). WorkerPartFits z c.args.worker c.args.part.now) (sym c.self.view_is) c.requires.fits

pub ran_lent-requires-clause-shared : goal.ran_lent-requires-clause-shared
ran_lent-requires-clause-shared c = subst (λ (z : SharedValue). IsShared z c.args.part.now) (sym c.self.view_is) c.requires.shared

pub invariant_of-self : goal.invariant_of-self
invariant_of-self c = unchanged_kept c.self.inside.shared c.ran_lent.new.self c.in_err-lent.field-0.0 c.self.inside.counts c.in_err-lent.ensures.same c.self.invariant

pub returns-in_err-lent : goal.returns-in_err-lent
returns-in_err-lent c =
    handed_on (λ (z : SharedValue). EntersLent z c.ran_lent.new.self c.args.worker c.args.part.now c.ran_lent.new.part) c.self.inside.shared c.args.self.now c.self.view_is c.from_residual.result c.in_err-lent.field-0.0 c.from_residual.ensures.1 c.in_err-lent.ensures

pub count-requires : goal.count-requires
count-requires c =
    let w : SharedValue = c.self.inside.shared in
    let v : SharedValue = c.ran_lent.new.self in
    let p : Private = c.args.part.now in
    is_made w v c.self.inside.counts (alone_entry c.args.worker p) 0 c.stands.ensures (lent_enters w v c.args.worker p c.ran_lent.new.part c.in_ok-lent.lent c.in_default.not-Leaves c.in_ok-lent.ensures.answered) c.in_ok-lent.ensures.refused c.self.invariant tt

pub returns-in_default : goal.returns-in_default
returns-in_default c = subst (λ (z : SharedValue). EntersLent z c.ran_lent.new.self c.args.worker c.args.part.now c.ran_lent.new.part (Ok c.in_ok-lent.lent)) c.self.view_is c.in_ok-lent.ensures

pub invariant_of-self-in-Leaves : goal.invariant_of-self-in-Leaves
invariant_of-self-in-Leaves c =
    let w : SharedValue = c.self.inside.shared in
    let v : SharedValue = c.ran_lent.new.self in
    let p : Private = c.args.part.now in
    let q : Private = c.ran_lent.new.part in
    let a : LeavesPart w v p q c.in-Leaves.field-0 = subst (LentTo w v c.args.worker p q) c.in-Leaves.is c.in_ok-lent.ensures.answered in
    subst (λ (z : SharedValue). CountsJournal z c.self.inside.counts) (sym a.same) c.self.invariant

pub returns-in-Leaves : goal.returns-in-Leaves
returns-in-Leaves c = subst (λ (z : SharedValue). EntersLent z c.ran_lent.new.self c.args.worker c.args.part.now c.ran_lent.new.part (Ok c.in_ok-lent.lent)) c.self.view_is c.in_ok-lent.ensures
