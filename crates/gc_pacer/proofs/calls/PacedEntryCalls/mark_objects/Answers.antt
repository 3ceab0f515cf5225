use Rattle.gc_pacer.proofs.Common.{ap, Ok, refl, sym, subst, ◌∙◌, EntryValue, More, SharedValue, MarksMore, handed_on, Pays, KeepsPaces, Pacer}
use Rattle.gc_pacer.proofs.Idle.{lent_kept}
use Rattle.gc_pacer.proofs.Noted.{other_then}
use Rattle.gc_pacer.proofs.calls.PacedEntryCalls.mark_objects.Goals as goal

pub returns : goal.returns
returns c = subst (λ (z : SharedValue). MarksMore z c.mark_objects.new.self c.args.worker c.args.t c.args.n (Ok c.in_ok-count.count)) (ap (λ (z : Pacer). z.counted) c.get_mut-pacer.ensures.value ∙ c.self.view_is) c.in_ok-count.ensures

pub returns-in_err-count : goal.returns-in_err-count
returns-in_err-count c =
    handed_on (λ (z : SharedValue). MarksMore z c.mark_objects.new.self c.args.worker c.args.t c.args.n) c.get_mut-pacer.result.now.counted c.args.self.now (ap (λ (z : Pacer). z.counted) c.get_mut-pacer.ensures.value ∙ c.self.view_is) c.from_residual.result c.in_err-count.field-0.0 c.from_residual.ensures.1 c.in_err-count.ensures

pub invariant_of-self-2 : goal.invariant_of-self-2
invariant_of-self-2 c =
    let e : EntryValue = record { worker = c.args.worker; kind = More c.args.t c.args.n } in
    other_then c.get_mut-pacer.result.now.counted c.mark_objects.new.self e c.get_mut-pacer.result.now.paces c.note_other.new.paces c.stands.ensures (lent_kept c.get_mut-pacer.result.now c.self.inside.pacer c.get_mut-pacer.ensures.value c.self.invariant) c.in_ok-count.ensures.enters (sym c.in_ok-count.ensures.refused)
    (subst (λ (z : SharedValue). Pays z e) (sym (ap (λ (z : Pacer). z.counted) c.get_mut-pacer.ensures.value ∙ c.self.view_is)) c.requires.pays) (λ x. refl) c.note_other.ensures

pub invariant_of-self : goal.invariant_of-self
invariant_of-self c = subst (λ (z : SharedValue). KeepsPaces z c.get_mut-pacer.result.now.paces) (sym c.in_err-count.ensures.same) (lent_kept c.get_mut-pacer.result.now c.self.inside.pacer c.get_mut-pacer.ensures.value c.self.invariant)
