use Rattle.gc_pacer.proofs.Common.{ap, Ok, refl, sym, subst, ◌∙◌, EntryValue, Took, SharedValue, TakesTask, handed_on, Pays, KeepsPaces, Pacer}
use Rattle.gc_pacer.proofs.Idle.{lent_kept}
use Rattle.gc_pacer.proofs.Noted.{other_then}
use Rattle.gc_pacer.proofs.calls.PacedEntryCalls.took.Goals as goal

pub returns : goal.returns
returns c = subst (λ (z : SharedValue). TakesTask z c.took.new.self c.args.worker c.args.t (Ok c.in_ok-part.part)) (ap (λ (z : Pacer). z.counted) c.get_mut-pacer.ensures.value ∙ c.self.view_is) c.in_ok-part.ensures

pub returns-in_err-part : goal.returns-in_err-part
returns-in_err-part c =
    handed_on (λ (z : SharedValue). TakesTask z c.took.new.self c.args.worker c.args.t) c.get_mut-pacer.result.now.counted c.args.self.now (ap (λ (z : Pacer). z.counted) c.get_mut-pacer.ensures.value ∙ c.self.view_is) c.from_residual.result c.in_err-part.field-0.0 c.from_residual.ensures.1 c.in_err-part.ensures

pub invariant_of-self-2 : goal.invariant_of-self-2
invariant_of-self-2 c =
    let e : EntryValue = record { worker = c.args.worker; kind = Took c.args.t } in
    other_then c.get_mut-pacer.result.now.counted c.took.new.self e c.get_mut-pacer.result.now.paces c.note_other.new.paces c.stands.ensures (lent_kept c.get_mut-pacer.result.now c.self.inside.pacer c.get_mut-pacer.ensures.value c.self.invariant) c.in_ok-part.ensures.enters (sym c.in_ok-part.ensures.refused)
    (subst (λ (z : SharedValue). Pays z e) (sym (ap (λ (z : Pacer). z.counted) c.get_mut-pacer.ensures.value ∙ c.self.view_is)) c.requires.pays) (λ x. refl) c.note_other.ensures

pub invariant_of-self : goal.invariant_of-self
invariant_of-self c = subst (λ (z : SharedValue). KeepsPaces z c.get_mut-pacer.result.now.paces) (sym c.in_err-part.ensures.same) (lent_kept c.get_mut-pacer.result.now c.self.inside.pacer c.get_mut-pacer.ensures.value c.self.invariant)
