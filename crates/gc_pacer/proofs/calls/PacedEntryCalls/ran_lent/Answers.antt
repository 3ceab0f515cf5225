use Rattle.gc_pacer.proofs.Common.{ap, ◌≡◌, ◌+◌, None, Ok, sym, subst, inr, ◌∙◌, EntryValue, Ran, Private, SharedValue, accounts, WorkerPartFits, alone_entry, IsShared, EntersLent, handed_on, lent_enters, Pays, KeepsNoted, NotesAt, Pacer}
use Rattle.gc_pacer.proofs.Idle.{lent_kept, unchanged_kept}
use Rattle.gc_pacer.proofs.Noted.{paced_then}
use Rattle.gc_pacer.proofs.calls.PacedEntryCalls.ran_lent.Goals as goal

pub ran_lent-requires-clause-fits : goal.ran_lent-requires-clause-fits
ran_lent-requires-clause-fits c = subst (λ (z : SharedValue). WorkerPartFits z c.args.worker c.args.part.now) (sym (ap (λ (z : Pacer). z.counted) c.get_mut-pacer.ensures.value ∙ c.self.view_is)) c.requires.fits

pub ran_lent-requires-clause-shared : goal.ran_lent-requires-clause-shared
ran_lent-requires-clause-shared c = subst (λ (z : SharedValue). IsShared z c.args.part.now) (sym (ap (λ (z : Pacer). z.counted) c.get_mut-pacer.ensures.value ∙ c.self.view_is)) c.requires.shared

pub invariant_of-self : goal.invariant_of-self
invariant_of-self c = unchanged_kept c.get_mut-pacer.result.now.counted c.ran_lent.new.self c.in_err-lent.field-0.0 c.get_mut-pacer.result.now.paces c.in_err-lent.ensures.same (lent_kept c.get_mut-pacer.result.now c.self.inside.pacer c.get_mut-pacer.ensures.value c.self.invariant)

pub returns-in_err-lent : goal.returns-in_err-lent
returns-in_err-lent c =
    handed_on (λ (z : SharedValue). EntersLent z c.ran_lent.new.self c.args.worker c.args.part.now c.ran_lent.new.part) c.get_mut-pacer.result.now.counted c.args.self.now (ap (λ (z : Pacer). z.counted) c.get_mut-pacer.ensures.value ∙ c.self.view_is) c.from_residual.result c.in_err-lent.field-0.0 c.from_residual.ensures.1 c.in_err-lent.ensures

pub invariant_of-self-2 : goal.invariant_of-self-2
invariant_of-self-2 c =
    let w : SharedValue = c.get_mut-pacer.result.now.counted in
    let v : SharedValue = c.ran_lent.new.self in
    let p : Private = c.args.part.now in
    let e : EntryValue = alone_entry c.args.worker p in
    paced_then w v e c.get_mut-pacer.result.now.paces c.note_ran.new.paces c.stands.ensures (lent_kept c.get_mut-pacer.result.now c.self.inside.pacer c.get_mut-pacer.ensures.value c.self.invariant)
    (lent_enters w v c.args.worker p c.ran_lent.new.part c.in_ok-lent.lent c.in_default.not-Leaves c.in_ok-lent.ensures.answered) c.in_ok-lent.ensures.refused
    (inr (subst (λ (z : SharedValue). Pays z e) (sym (ap (λ (z : Pacer). z.counted) c.get_mut-pacer.ensures.value ∙ c.self.view_is)) c.requires.pays)) c.note_ran.ensures.many
    (subst (λ (z : SharedValue). (accounts z).end ≡ None → NotesAt c.get_mut-pacer.result.now.paces c.note_ran.new.paces c.args.worker (KeepsNoted (accounts z) (Ran p.task (p.fresh + 1)))) c.shared.ensures (λ on. c.note_ran.ensures.noted on (p.fresh + 1)))

pub returns : goal.returns
returns c = subst (λ (z : SharedValue). EntersLent z c.ran_lent.new.self c.args.worker c.args.part.now c.ran_lent.new.part (Ok c.in_ok-lent.lent)) (ap (λ (z : Pacer). z.counted) c.get_mut-pacer.ensures.value ∙ c.self.view_is) c.in_ok-lent.ensures

pub returns-in-Leaves : goal.returns-in-Leaves
returns-in-Leaves c = subst (λ (z : SharedValue). EntersLent z c.ran_lent.new.self c.args.worker c.args.part.now c.ran_lent.new.part (Ok c.in_ok-lent.lent)) (ap (λ (z : Pacer). z.counted) c.get_mut-pacer.ensures.value ∙ c.self.view_is) c.in_ok-lent.ensures
