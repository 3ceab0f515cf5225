use Rattle.gc_pacer.proofs.Common.{ap, ◌≡◌, None, true, Ok, is_some, slice_get, sym, subst, inr, ◌∙◌, is_waiting, EntryValue, Mark, heap_of, SharedValue, accounts, refused, IsCaused, BeginsMarking, handed_on, Pays, KeepsNoted, KeepsPaces, NotesAt, Pacer}
use Rattle.gc_pacer.proofs.Idle.{lent_kept, marks_kept}
use Rattle.gc_pacer.proofs.MarkNotes.{mark_goes, mark_marked, mark_waits}
use Rattle.gc_pacer.proofs.Noted.{paced_then}
use Rattle.gc_pacer.proofs.calls.PacedEntryCalls.mark.Goals as goal

pub invariant_of-self : goal.invariant_of-self
invariant_of-self c = marks_kept c.get_mut-pacer.result.now.counted c.get_mut-pacer.result.now.paces c.reserve_mark.new.paces c.args.worker c.reserve_mark.ensures.same (lent_kept c.get_mut-pacer.result.now c.self.inside.pacer c.get_mut-pacer.ensures.value c.self.invariant)

pub returns-then-is_err : goal.returns-then-is_err
returns-then-is_err c = record {
  refused = subst (λ (z : SharedValue). IsCaused c.no_place.result (refused z (record { worker = c.args.worker; kind = Mark c.args.t }))) (c.shared.ensures ∙ (ap (λ (z : Pacer). z.counted) c.get_mut-pacer.ensures.value ∙ c.self.view_is)) c.no_place.ensures;
  same = ap (λ (z : Pacer). z.counted) c.get_mut-pacer.ensures.value ∙ c.self.view_is;
  enters = tt;
  fits = tt;
}

pub note_mark-requires-clause-goes : goal.note_mark-requires-clause-goes
note_mark-requires-clause-goes c =
    subst (λ (z : SharedValue). (accounts z).end ≡ None) (sym c.shared-2.ensures)
    (mark_goes c.get_mut-pacer.result.now.counted c.mark.new.self c.args.worker c.args.t c.stands.ensures c.in_ok-mark.ensures.enters c.in_ok-mark.ensures.refused)

pub note_mark-requires-clause-waits : goal.note_mark-requires-clause-waits
note_mark-requires-clause-waits c =
    subst (λ (z : SharedValue). is_waiting (slice_get (accounts z).machine.tasks c.args.t) ≡ true) (sym c.shared-2.ensures)
    (mark_waits c.get_mut-pacer.result.now.counted c.mark.new.self c.args.worker c.args.t c.stands.ensures c.in_ok-mark.ensures.enters c.in_ok-mark.ensures.refused)

pub note_mark-requires-clause-marked : goal.note_mark-requires-clause-marked
note_mark-requires-clause-marked c =
    subst (λ (z : SharedValue). is_some (heap_of (accounts z) c.args.t).marked ≡ true) (sym c.shared-2.ensures)
    (mark_marked c.get_mut-pacer.result.now.counted c.mark.new.self c.args.worker c.args.t c.stands.ensures c.in_ok-mark.ensures.enters c.in_ok-mark.ensures.refused)

pub invariant_of-self-2 : goal.invariant_of-self-2
invariant_of-self-2 c =
    let w : SharedValue = c.get_mut-pacer.result.now.counted in
    let e : EntryValue = record { worker = c.args.worker; kind = Mark c.args.t } in
    let K : KeepsPaces w c.reserve_mark.new.paces = marks_kept w c.get_mut-pacer.result.now.paces c.reserve_mark.new.paces c.args.worker c.reserve_mark.ensures.same (lent_kept c.get_mut-pacer.result.now c.self.inside.pacer c.get_mut-pacer.ensures.value c.self.invariant) in
    paced_then w c.mark.new.self e c.reserve_mark.new.paces c.note_mark.new.paces c.stands.ensures K c.in_ok-mark.ensures.enters c.in_ok-mark.ensures.refused
    (inr (subst (λ (z : SharedValue). Pays z e) (sym (ap (λ (z : Pacer). z.counted) c.get_mut-pacer.ensures.value ∙ c.self.view_is)) c.requires.pays)) c.note_mark.ensures.many
    (λ on. subst (λ (z : SharedValue). NotesAt c.reserve_mark.new.paces c.note_mark.new.paces c.args.worker (KeepsNoted (accounts z) (Mark c.args.t))) c.shared-2.ensures c.note_mark.ensures)

pub invariant_of-self-in_err-mark : goal.invariant_of-self-in_err-mark
invariant_of-self-in_err-mark c =
    let K : KeepsPaces c.get_mut-pacer.result.now.counted c.reserve_mark.new.paces = marks_kept c.get_mut-pacer.result.now.counted c.get_mut-pacer.result.now.paces c.reserve_mark.new.paces c.args.worker c.reserve_mark.ensures.same (lent_kept c.get_mut-pacer.result.now c.self.inside.pacer c.get_mut-pacer.ensures.value c.self.invariant) in
    subst (λ (z : SharedValue). KeepsPaces z c.reserve_mark.new.paces) (sym c.in_err-mark.ensures.same) K

pub returns : goal.returns
returns c = subst (λ (z : SharedValue). BeginsMarking z c.mark.new.self c.args.worker c.args.t (Ok tt)) (ap (λ (z : Pacer). z.counted) c.get_mut-pacer.ensures.value ∙ c.self.view_is) c.in_ok-mark.ensures

pub returns-in_err-mark : goal.returns-in_err-mark
returns-in_err-mark c =
    handed_on (λ (z : SharedValue). BeginsMarking z c.mark.new.self c.args.worker c.args.t) c.get_mut-pacer.result.now.counted c.args.self.now (ap (λ (z : Pacer). z.counted) c.get_mut-pacer.ensures.value ∙ c.self.view_is) c.from_residual.result c.in_err-mark.field-0.0 c.from_residual.ensures.1 c.in_err-mark.ensures
