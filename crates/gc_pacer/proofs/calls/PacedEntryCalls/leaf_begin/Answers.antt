use Rattle.gc_pacer.proofs.Common.{ap, Ok, refl, sym, subst, ◌∙◌, EntryValue, Begin, SharedValue, WorkerPartFits, BeginsLeaf, handed_on, Pays, KeepsPaces, Pacer}
use Rattle.gc_pacer.proofs.Idle.{lent_kept}
use Rattle.gc_pacer.proofs.Noted.{other_then}
use Rattle.gc_pacer.proofs.calls.PacedEntryCalls.leaf_begin.Goals as goal

pub leaf_begin-requires-clause-fits : goal.leaf_begin-requires-clause-fits
leaf_begin-requires-clause-fits c = subst (λ (z : SharedValue). WorkerPartFits z c.args.worker c.args.part.now) (sym (ap (λ (z : Pacer). z.counted) c.get_mut-pacer.ensures.value ∙ c.self.view_is)) c.requires.fits

pub returns : goal.returns
returns c = subst (λ (z : SharedValue). BeginsLeaf z c.leaf_begin.new.self c.args.worker c.args.part.now c.leaf_begin.new.part (Ok c.in_ok-begun.begun)) (ap (λ (z : Pacer). z.counted) c.get_mut-pacer.ensures.value ∙ c.self.view_is) c.in_ok-begun.ensures

pub returns-in_err-begun : goal.returns-in_err-begun
returns-in_err-begun c =
    handed_on (λ (z : SharedValue). BeginsLeaf z c.leaf_begin.new.self c.args.worker c.args.part.now c.leaf_begin.new.part) c.get_mut-pacer.result.now.counted c.args.self.now (ap (λ (z : Pacer). z.counted) c.get_mut-pacer.ensures.value ∙ c.self.view_is) c.from_residual.result c.in_err-begun.field-0.0 c.from_residual.ensures.1 c.in_err-begun.ensures

pub invariant_of-self-2 : goal.invariant_of-self-2
invariant_of-self-2 c =
    let e : EntryValue = record { worker = c.args.worker; kind = Begin c.args.part.now.task } in
    other_then c.get_mut-pacer.result.now.counted c.leaf_begin.new.self e c.get_mut-pacer.result.now.paces c.note_other.new.paces c.stands.ensures (lent_kept c.get_mut-pacer.result.now c.self.inside.pacer c.get_mut-pacer.ensures.value c.self.invariant) c.in_ok-begun.ensures.enters (c.in_ok-begun.ensures.refused)
    (subst (λ (z : SharedValue). Pays z e) (sym (ap (λ (z : Pacer). z.counted) c.get_mut-pacer.ensures.value ∙ c.self.view_is)) c.requires.pays) (λ x. refl) c.note_other.ensures

pub invariant_of-self : goal.invariant_of-self
invariant_of-self c = subst (λ (z : SharedValue). KeepsPaces z c.get_mut-pacer.result.now.paces) (sym c.in_err-begun.ensures.same) (lent_kept c.get_mut-pacer.result.now c.self.inside.pacer c.get_mut-pacer.ensures.value c.self.invariant)
