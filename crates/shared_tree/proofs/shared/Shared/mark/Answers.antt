use Rattle.shared_tree.proofs.Common.{◌≡◌, Result, None, refl, sym, subst, ◌∙◌, ◌<◌, Mark, NotEntered, refused, Enters, EachPartStillFits, SharedValue, BeginsMarking}
use Rattle.shared_tree.proofs.HandedOn.{for_memory}
use Rattle.shared_tree.proofs.shared.Shared.mark.Goals as goal

pub marking_of-requires : goal.marking_of-requires
marking_of-requires c = record { free = (c.args.worker, sym c.mark_refused.ensures ∙ c.in_default.is) }

pub enter_mark-requires-clause-free : goal.enter_mark-requires-clause-free
enter_mark-requires-clause-free c =
    subst (λ (z : SharedValue). refused z (record { worker = c.args.worker; kind = Mark c.args.t }) ≡ None) (sym c.marking_of.ensures.same) (sym c.mark_refused.ensures ∙ c.in_default.is)

pub enter_mark-requires-clause-room : goal.enter_mark-requires-clause-room
enter_mark-requires-clause-room c = subst (λ (z : SharedValue). 0 < z.journal.room) (sym c.marking_of.ensures.same) c.requires.room

pub returns-in-Some : goal.returns-in-Some
returns-in-Some c = record { refused = sym c.mark_refused.ensures ∙ c.in-Some.is; same = refl; enters = tt; fits = tt }

pub returns-in_err-marking : goal.returns-in_err-marking
returns-in_err-marking c =
    for_memory (λ (r : Result (Unit {0}) NotEntered). BeginsMarking c.args.self.now c.marking_of.new.self c.args.worker c.args.t r)
    (record { refused = sym c.mark_refused.ensures ∙ c.in_default.is; same = c.marking_of.ensures.same; enters = tt; fits = tt }) c.from_residual.result c.from_residual.ensures.1

pub returns-in_err-enter_mark : goal.returns-in_err-enter_mark
returns-in_err-enter_mark c =
    for_memory (λ (r : Result (Unit {0}) NotEntered). BeginsMarking c.args.self.now c.enter_mark.new.self c.args.worker c.args.t r)
    (record { refused = sym c.mark_refused.ensures ∙ c.in_default.is; same = c.in_err-enter_mark.ensures.same ∙ c.marking_of.ensures.same; enters = tt; fits = tt })
    c.from_residual-in_err-enter_mark.result c.from_residual-in_err-enter_mark.ensures.1

pub returns : goal.returns
returns c = record {
  refused = sym c.mark_refused.ensures ∙ c.in_default.is;
  same = tt;
  enters = subst (λ (z : SharedValue). Enters z c.enter_mark.new.self (record { worker = c.args.worker; kind = Mark c.args.t })) c.marking_of.ensures.same c.in_ok-enter_mark.ensures.enters;
  fits = subst (λ (z : SharedValue). EachPartStillFits z c.enter_mark.new.self) c.marking_of.ensures.same c.in_ok-enter_mark.ensures.fits;
}
