use Rattle.gc_pacer.proofs.Common.{ap, ◌≡◌, ◌+◌, None, Ok, sym, subst, inr, ◌∙◌, EntryValue, Ran, Private, SharedValue, accounts, refused, WorkerPartFits, alone_entry, IsShared, EntersLeaving, LeavesBy, handed_on, ran_enters, Pays, KeepsNoted, NotesAt, Pacer}
use Rattle.gc_pacer.proofs.Idle.{lent_kept, unchanged_kept}
use Rattle.gc_pacer.proofs.Noted.{paced_then}
use Rattle.gc_pacer.proofs.calls.PacedEntryCalls.ran_leaving.Goals as goal

pub ran_leaving-requires-clause-fits : goal.ran_leaving-requires-clause-fits
ran_leaving-requires-clause-fits c = subst (λ (z : SharedValue). WorkerPartFits z c.args.worker c.args.part) (sym (ap (λ (z : Pacer). z.counted) c.get_mut-pacer.ensures.value ∙ c.self.view_is)) c.requires.fits

pub ran_leaving-requires-clause-shared : goal.ran_leaving-requires-clause-shared
ran_leaving-requires-clause-shared c = subst (λ (z : SharedValue). IsShared z c.args.part) (sym (ap (λ (z : Pacer). z.counted) c.get_mut-pacer.ensures.value ∙ c.self.view_is)) c.requires.shared

pub ran_leaving-requires-clause-free : goal.ran_leaving-requires-clause-free
ran_leaving-requires-clause-free c = subst (λ (z : SharedValue). refused z (alone_entry c.args.worker c.args.part) ≡ None) (sym (ap (λ (z : Pacer). z.counted) c.get_mut-pacer.ensures.value ∙ c.self.view_is)) c.requires.free

pub ran_leaving-requires-clause-leaves : goal.ran_leaving-requires-clause-leaves
ran_leaving-requires-clause-leaves c = subst (λ (z : SharedValue). LeavesBy z c.args.part c.args.leaving) (sym (ap (λ (z : Pacer). z.counted) c.get_mut-pacer.ensures.value ∙ c.self.view_is)) c.requires.leaves

pub invariant_of-self : goal.invariant_of-self
invariant_of-self c = unchanged_kept c.get_mut-pacer.result.now.counted c.ran_leaving.new.self c.in_err-ran.field-0.0.cause c.get_mut-pacer.result.now.paces c.in_err-ran.ensures.same (lent_kept c.get_mut-pacer.result.now c.self.inside.pacer c.get_mut-pacer.ensures.value c.self.invariant)

pub returns-in_err-ran : goal.returns-in_err-ran
returns-in_err-ran c =
    handed_on (λ (z : SharedValue). EntersLeaving z c.ran_leaving.new.self c.args.worker c.args.part) c.get_mut-pacer.result.now.counted c.args.self.now (ap (λ (z : Pacer). z.counted) c.get_mut-pacer.ensures.value ∙ c.self.view_is) c.from_residual.result c.in_err-ran.field-0.0 c.from_residual.ensures.1 c.in_err-ran.ensures

pub invariant_of-self-2 : goal.invariant_of-self-2
invariant_of-self-2 c =
    let w : SharedValue = c.get_mut-pacer.result.now.counted in
    let p : Private = c.args.part in
    let e : EntryValue = alone_entry c.args.worker p in
    let free : refused w e ≡ None = subst (λ (z : SharedValue). refused z e ≡ None) (sym (ap (λ (z : Pacer). z.counted) c.get_mut-pacer.ensures.value ∙ c.self.view_is)) c.requires.free in
    paced_then w c.ran_leaving.new.self e c.get_mut-pacer.result.now.paces c.note_ran.new.paces c.stands.ensures (lent_kept c.get_mut-pacer.result.now c.self.inside.pacer c.get_mut-pacer.ensures.value c.self.invariant)
    (ran_enters w c.ran_leaving.new.self c.args.worker p c.in_ok-ran.ran c.in_ok-ran.ensures.answered) free
    (inr (subst (λ (z : SharedValue). Pays z e) (sym (ap (λ (z : Pacer). z.counted) c.get_mut-pacer.ensures.value ∙ c.self.view_is)) c.requires.pays)) c.note_ran.ensures.many
    (subst (λ (z : SharedValue). (accounts z).end ≡ None → NotesAt c.get_mut-pacer.result.now.paces c.note_ran.new.paces c.args.worker (KeepsNoted (accounts z) (Ran p.task (p.fresh + 1)))) c.shared.ensures
    (λ on. subst (λ t. NotesAt c.get_mut-pacer.result.now.paces c.note_ran.new.paces c.args.worker (KeepsNoted (accounts c.shared.result.now) (Ran t (p.fresh + 1)))) c.task-task.ensures (c.note_ran.ensures.noted on (p.fresh + 1))))

pub returns : goal.returns
returns c = subst (λ (z : SharedValue). EntersLeaving z c.ran_leaving.new.self c.args.worker c.args.part (Ok c.in_ok-ran.ran)) (ap (λ (z : Pacer). z.counted) c.get_mut-pacer.ensures.value ∙ c.self.view_is) c.in_ok-ran.ensures
