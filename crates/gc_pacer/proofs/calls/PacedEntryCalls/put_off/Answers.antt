use Rattle.gc_pacer.proofs.Common.{ap, Ok, refl, sym, subst, ◌∙◌, EntryValue, PutOff, SharedValue, WorkerPartFits, PutsOff, handed_on, Pays, KeepsPaces, Pacer}
use Rattle.gc_pacer.proofs.Idle.{lent_kept}
use Rattle.gc_pacer.proofs.Noted.{other_then}
use Rattle.gc_pacer.proofs.calls.PacedEntryCalls.put_off.Goals as goal

pub put_off-requires-clause-fits : goal.put_off-requires-clause-fits
put_off-requires-clause-fits c = subst (λ (z : SharedValue). WorkerPartFits z c.args.worker c.args.part.now) (sym (ap (λ (z : Pacer). z.counted) c.get_mut-pacer.ensures.value ∙ c.self.view_is)) c.requires.fits

pub returns : goal.returns
returns c = subst (λ (z : SharedValue). PutsOff z c.put_off.new.self c.args.worker c.args.part.now c.put_off.new.part (Ok tt)) (ap (λ (z : Pacer). z.counted) c.get_mut-pacer.ensures.value ∙ c.self.view_is) c.in_ok-put_off.ensures

pub returns-in_err-put_off : goal.returns-in_err-put_off
returns-in_err-put_off c =
    handed_on (λ (z : SharedValue). PutsOff z c.put_off.new.self c.args.worker c.args.part.now c.put_off.new.part) c.get_mut-pacer.result.now.counted c.args.self.now (ap (λ (z : Pacer). z.counted) c.get_mut-pacer.ensures.value ∙ c.self.view_is) c.from_residual.result c.in_err-put_off.field-0.0 c.from_residual.ensures.1 c.in_err-put_off.ensures

pub invariant_of-self-2 : goal.invariant_of-self-2
invariant_of-self-2 c =
    let e : EntryValue = record { worker = c.args.worker; kind = PutOff c.args.part.now.task } in
    other_then c.get_mut-pacer.result.now.counted c.put_off.new.self e c.get_mut-pacer.result.now.paces c.note_other.new.paces c.stands.ensures (lent_kept c.get_mut-pacer.result.now c.self.inside.pacer c.get_mut-pacer.ensures.value c.self.invariant) c.in_ok-put_off.ensures.enters (sym c.in_ok-put_off.ensures.refused)
    (subst (λ (z : SharedValue). Pays z e) (sym (ap (λ (z : Pacer). z.counted) c.get_mut-pacer.ensures.value ∙ c.self.view_is)) c.requires.pays) (λ x. refl) c.note_other.ensures

pub invariant_of-self : goal.invariant_of-self
invariant_of-self c = subst (λ (z : SharedValue). KeepsPaces z c.get_mut-pacer.result.now.paces) (sym c.in_err-put_off.ensures.same) (lent_kept c.get_mut-pacer.result.now c.self.inside.pacer c.get_mut-pacer.ensures.value c.self.invariant)
