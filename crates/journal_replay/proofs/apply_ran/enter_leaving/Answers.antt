use Rattle.journal_replay.proofs.Common.{◌≡◌, ℕ, None, NoMemory, refl, ap, sym, subst, ◌∙◌, Private, SharedValue, WorkerPartFits, IsCaused, IsShared, refused, alone_entry, alone_free, same_world, EntersFor, LeavesBy, RanTo}
use Rattle.journal_replay.proofs.Making.{ran_fails, ran_made}
use Rattle.journal_replay.proofs.apply_ran.enter_leaving.Goals as goal

pub ran_leaving-requires-clause-fits : goal.ran_leaving-requires-clause-fits
ran_leaving-requires-clause-fits g c = subst (WorkerPartFits (g.S.LegalCalls.value c.args.shared.now) c.args.worker) (sym c.fill.ensures) c.requires.fits

pub ran_leaving-requires-clause-shared : goal.ran_leaving-requires-clause-shared
ran_leaving-requires-clause-shared g c = subst (IsShared (g.S.LegalCalls.value c.args.shared.now)) (sym c.fill.ensures) c.requires.shared

pub ran_leaving-requires-clause-free : goal.ran_leaving-requires-clause-free
ran_leaving-requires-clause-free g c =
    subst (λ (r : Private). refused (g.S.LegalCalls.value c.args.shared.now) (alone_entry c.args.worker r) ≡ None) (sym c.fill.ensures)
    (alone_free (g.S.LegalCalls.value c.args.shared.now) c.args.worker c.args.part c.stands.ensures c.requires.fits c.requires.shared c.requires.idle c.requires.first)

pub ran_leaving-requires-clause-leaves : goal.ran_leaving-requires-clause-leaves
ran_leaving-requires-clause-leaves g c = subst (λ (r : Private). LeavesBy (g.S.LegalCalls.value c.args.shared.now) r c.args.leaving) (sym c.fill.ensures) c.requires.leaves

pub returns-in-Ok-ran_leaving : goal.returns-in-Ok-ran_leaving
returns-in-Ok-ran_leaving g c =
    let w : SharedValue = g.S.LegalCalls.value c.args.shared.now in
    let v : SharedValue = g.S.LegalCalls.value c.ran_leaving.new.self in
    let k : ℕ = c.args.worker in
    let p : Private = c.args.part in
    let free : refused w (alone_entry k p) ≡ None = alone_free w k p c.stands.ensures c.requires.fits c.requires.shared c.requires.idle c.requires.first in
    subst (EntersFor w v k (alone_entry k p)) (sym c.holding_of.ensures)
    (ran_made w v k p c.in-Ok-ran_leaving.ran c.requires.idle free (subst (λ (r : Private). RanTo w v k r c.in-Ok-ran_leaving.ran) c.fill.ensures c.in-Ok-ran_leaving.ensures.answered))

pub returns-in-Err : goal.returns-in-Err
returns-in-Err g c =
    let w : SharedValue = g.S.LegalCalls.value c.args.shared.now in
    let v : SharedValue = g.S.LegalCalls.value c.ran_leaving.new.self in
    let k : ℕ = c.args.worker in
    let p : Private = c.args.part in
    let free : refused w (alone_entry k p) ≡ None = alone_free w k p c.stands.ensures c.requires.fits c.requires.shared c.requires.idle c.requires.first in
    ran_fails w v k (alone_entry k p) p c.unpack.result c.in-Err.failed.cause free (subst (IsCaused c.in-Err.failed.cause) (sym free) c.in-Err.ensures.refused) c.in-Err.ensures.same c.in-Err.ensures.still
    (c.unpack.ensures ∙ (c.in-Err.ensures.back ∙ c.fill.ensures)) c.requires.idle c.requires.fits

pub returns-in_default : goal.returns-in_default
returns-in_default g c =
    let w : SharedValue = g.S.LegalCalls.value c.args.shared.now in
    let k : ℕ = c.args.worker in
    let p : Private = c.args.part in
    let free : refused w (alone_entry k p) ≡ None = alone_free w k p c.stands.ensures c.requires.fits c.requires.shared c.requires.idle c.requires.first in
    ran_fails w w k (alone_entry k p) p p NoMemory free free (same_world w) (λ j r F. F) refl c.requires.idle c.requires.fits
