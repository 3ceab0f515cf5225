use Rattle.gc_pacer.proofs.Common.{ap, Ok, refl, sym, subst, ◌∙◌, EntryValue, SharedValue, end_entry, EndsLeaf, handed_on, Pays, KeepsPaces, Pacer}
use Rattle.gc_pacer.proofs.Idle.{lent_kept}
use Rattle.gc_pacer.proofs.Noted.{other_then}
use Rattle.gc_pacer.proofs.calls.PacedEntryCalls.leaf_end.Goals as goal

pub returns : goal.returns
returns c = subst (λ (z : SharedValue). EndsLeaf z c.leaf_end.new.self c.args.worker c.args.part.now c.leaf_end.new.part c.args.moved (Ok tt)) (ap (λ (z : Pacer). z.counted) c.get_mut-pacer.ensures.value ∙ c.self.view_is) c.in_ok-leaf_end.ensures

pub returns-in_err-leaf_end : goal.returns-in_err-leaf_end
returns-in_err-leaf_end c =
    handed_on (λ (z : SharedValue). EndsLeaf z c.leaf_end.new.self c.args.worker c.args.part.now c.leaf_end.new.part c.args.moved) c.get_mut-pacer.result.now.counted c.args.self.now (ap (λ (z : Pacer). z.counted) c.get_mut-pacer.ensures.value ∙ c.self.view_is) c.from_residual.result c.in_err-leaf_end.field-0.0 c.from_residual.ensures.1 c.in_err-leaf_end.ensures

pub invariant_of-self-2 : goal.invariant_of-self-2
invariant_of-self-2 c =
    let e : EntryValue = end_entry c.args.worker c.args.part.now c.args.moved in
    other_then c.get_mut-pacer.result.now.counted c.leaf_end.new.self e c.get_mut-pacer.result.now.paces c.note_other.new.paces c.stands.ensures (lent_kept c.get_mut-pacer.result.now c.self.inside.pacer c.get_mut-pacer.ensures.value c.self.invariant) c.in_ok-leaf_end.ensures.enters (sym c.in_ok-leaf_end.ensures.refused)
    (subst (λ (z : SharedValue). Pays z e) (sym (ap (λ (z : Pacer). z.counted) c.get_mut-pacer.ensures.value ∙ c.self.view_is)) c.requires.pays) (λ x. refl) c.note_other.ensures

pub invariant_of-self : goal.invariant_of-self
invariant_of-self c = subst (λ (z : SharedValue). KeepsPaces z c.get_mut-pacer.result.now.paces) (sym c.in_err-leaf_end.ensures.same) (lent_kept c.get_mut-pacer.result.now c.self.inside.pacer c.get_mut-pacer.ensures.value c.self.invariant)
