use Rattle.gc_pacer.proofs.Common.{ap, ◌≡◌, None, Ok, sym, subst, inr, ◌∙◌, EntryValue, Ran, SharedValue, accounts, WorkerPartFits, EntersSteps, handed_on, Pays, KeepsNoted, KeepsPaces, NotesAt, Pacer}
use Rattle.gc_pacer.proofs.Idle.{lent_kept}
use Rattle.gc_pacer.proofs.Noted.{paced_then}
use Rattle.gc_pacer.proofs.calls.PacedEntryCalls.ran_private.Goals as goal

pub ran_private-requires-clause-fits : goal.ran_private-requires-clause-fits
ran_private-requires-clause-fits c = subst (λ (z : SharedValue). WorkerPartFits z c.args.worker c.args.part.now) (sym (ap (λ (z : Pacer). z.counted) c.get_mut-pacer.ensures.value ∙ c.self.view_is)) c.requires.fits

pub returns : goal.returns
returns c = subst (λ (z : SharedValue). EntersSteps z c.ran_private.new.self c.args.worker c.args.part.now c.ran_private.new.part (Ok tt)) (ap (λ (z : Pacer). z.counted) c.get_mut-pacer.ensures.value ∙ c.self.view_is) c.in_ok-ran_private.ensures

pub returns-in_err-ran_private : goal.returns-in_err-ran_private
returns-in_err-ran_private c =
    handed_on (λ (z : SharedValue). EntersSteps z c.ran_private.new.self c.args.worker c.args.part.now c.ran_private.new.part) c.get_mut-pacer.result.now.counted c.args.self.now (ap (λ (z : Pacer). z.counted) c.get_mut-pacer.ensures.value ∙ c.self.view_is) c.from_residual.result c.in_err-ran_private.field-0.0 c.from_residual.ensures.1 c.in_err-ran_private.ensures

pub invariant_of-self-2 : goal.invariant_of-self-2
invariant_of-self-2 c =
    let e : EntryValue = record { worker = c.args.worker; kind = Ran c.args.part.now.task c.args.part.now.fresh } in
    paced_then c.get_mut-pacer.result.now.counted c.ran_private.new.self e c.get_mut-pacer.result.now.paces c.note_ran.new.paces c.stands.ensures (lent_kept c.get_mut-pacer.result.now c.self.inside.pacer c.get_mut-pacer.ensures.value c.self.invariant) c.in_ok-ran_private.ensures.enters (sym c.in_ok-ran_private.ensures.refused)
    (inr (subst (λ (z : SharedValue). Pays z e) (sym (ap (λ (z : Pacer). z.counted) c.get_mut-pacer.ensures.value ∙ c.self.view_is)) c.requires.pays)) c.note_ran.ensures.many
    (subst (λ (z : SharedValue). (accounts z).end ≡ None → NotesAt c.get_mut-pacer.result.now.paces c.note_ran.new.paces c.args.worker (KeepsNoted (accounts z) (Ran c.args.part.now.task c.args.part.now.fresh))) c.shared.ensures (λ on. c.note_ran.ensures.noted on c.args.part.now.fresh))

pub invariant_of-self : goal.invariant_of-self
invariant_of-self c = subst (λ (z : SharedValue). KeepsPaces z c.get_mut-pacer.result.now.paces) (sym c.in_err-ran_private.ensures.same) (lent_kept c.get_mut-pacer.result.now c.self.inside.pacer c.get_mut-pacer.ensures.value c.self.invariant)
