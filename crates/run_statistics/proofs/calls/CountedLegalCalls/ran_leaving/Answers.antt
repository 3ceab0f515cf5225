use Rattle.run_statistics.proofs.Common.{◌≡◌, None, Ok, sym, subst, SharedValue, refused, WorkerPartFits, alone_entry, IsShared, EntersLeaving, LeavesBy, handed_on}
use Rattle.run_statistics.proofs.EntryCounted.{is_made, ran_enters, unchanged_kept}
use Rattle.run_statistics.proofs.calls.CountedLegalCalls.ran_leaving.Goals as goal

pub ran_leaving-requires-clause-fits : goal.ran_leaving-requires-clause-fits
ran_leaving-requires-clause-fits c = subst (λ (z : SharedValue). WorkerPartFits z c.args.worker c.args.part) (sym c.self.view_is) c.requires.fits

pub ran_leaving-requires-clause-shared : goal.ran_leaving-requires-clause-shared
ran_leaving-requires-clause-shared c = subst (λ (z : SharedValue). IsShared z c.args.part) (sym c.self.view_is) c.requires.shared

pub ran_leaving-requires-clause-free : goal.ran_leaving-requires-clause-free
ran_leaving-requires-clause-free c = subst (λ (z : SharedValue). refused z (alone_entry c.args.worker c.args.part) ≡ None) (sym c.self.view_is) c.requires.free

pub ran_leaving-requires-clause-leaves : goal.ran_leaving-requires-clause-leaves
ran_leaving-requires-clause-leaves c = subst (λ (z : SharedValue). LeavesBy z c.args.part c.args.leaving) (sym c.self.view_is) c.requires.leaves

pub invariant_of-self : goal.invariant_of-self
invariant_of-self c = unchanged_kept c.self.inside.shared c.ran_leaving.new.self c.in_err-ran.field-0.0.cause c.self.inside.counts c.in_err-ran.ensures.same c.self.invariant

pub returns-in_err-ran : goal.returns-in_err-ran
returns-in_err-ran c =
    handed_on (λ (z : SharedValue). EntersLeaving z c.ran_leaving.new.self c.args.worker c.args.part) c.self.inside.shared c.args.self.now c.self.view_is c.from_residual.result c.in_err-ran.field-0.0 c.from_residual.ensures.1 c.in_err-ran.ensures

pub count-requires : goal.count-requires
count-requires c =
    let w : SharedValue = c.self.inside.shared in
    let free : refused w (alone_entry c.args.worker c.args.part) ≡ None = subst (λ (z : SharedValue). refused z (alone_entry c.args.worker c.args.part) ≡ None) (sym c.self.view_is) c.requires.free in
    is_made w c.ran_leaving.new.self c.self.inside.counts (alone_entry c.args.worker c.args.part) 0 c.stands.ensures (ran_enters w c.ran_leaving.new.self c.args.worker c.args.part c.in_ok-ran.ran c.in_ok-ran.ensures.answered) free c.self.invariant tt

pub returns : goal.returns
returns c = subst (λ (z : SharedValue). EntersLeaving z c.ran_leaving.new.self c.args.worker c.args.part (Ok c.in_ok-ran.ran)) c.self.view_is c.in_ok-ran.ensures
