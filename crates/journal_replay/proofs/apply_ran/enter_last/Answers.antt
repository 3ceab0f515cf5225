use Rattle.journal_replay.proofs.Common.{◌≡◌, ◌<◌, ℕ, false, None, subst, Private, first_cause, WorkerPartFits, SharedValue, GoesAlone, HaltsAlone, IsShared, alone_entry, alone_free, LeavesBy, LeavesPart, LentTo, MakesFor}
use Rattle.journal_replay.proofs.Making.{goes_made, halts_made, leaves_before, leaves_still, ran_fails}
use Rattle.journal_replay.proofs.apply_ran.enter_last.Goals as goal

pub returns-in-Ok-Goes : goal.returns-in-Ok-Goes
returns-in-Ok-Goes g c =
    let w : SharedValue = g.S.LegalCalls.value c.args.shared.now in
    let v : SharedValue = g.S.LegalCalls.value c.ran_lent.new.self in
    let k : ℕ = c.args.worker in
    let p : Private = c.args.part in
    let q : Private = c.ran_lent.new.part in
    let a : GoesAlone w v k p q = subst (LentTo w v k p q) c.in-Ok-Goes.field-0-is c.in-Ok-Goes.ensures.answered in
    goes_made w v k p q c.requires.idle c.in-Ok-Goes.ensures.refused a

pub returns-in-Ok-Over : goal.returns-in-Ok-Over
returns-in-Ok-Over g c =
    let w : SharedValue = g.S.LegalCalls.value c.args.shared.now in
    let v : SharedValue = g.S.LegalCalls.value c.ran_lent.new.self in
    let k : ℕ = c.args.worker in
    let p : Private = c.args.part in
    let q : Private = c.ran_lent.new.part in
    let a : HaltsAlone w v k p q = subst (LentTo w v k p q) c.in-Ok-Over.field-0-is c.in-Ok-Over.ensures.answered in
    halts_made w v k p q c.requires.idle c.in-Ok-Over.ensures.refused a

pub enter_leaving-requires-clause-room : goal.enter_leaving-requires-clause-room
enter_leaving-requires-clause-room g c =
    let w : SharedValue = g.S.LegalCalls.value c.args.shared.now in
    let v : SharedValue = g.S.LegalCalls.value c.ran_lent.new.self in
    let k : ℕ = c.args.worker in
    let p : Private = c.args.part in
    let q : Private = c.ran_lent.new.part in
    let a : LeavesPart w v p q c.in-Ok-Leaves.leaving = subst (LentTo w v k p q) c.in-Ok-Leaves.field-0-is c.in-Ok-Leaves.ensures.answered in
    leaves_still w v p q c.in-Ok-Leaves.leaving a (λ (z : SharedValue) (r : Private). 0 < z.journal.room) c.requires.room

pub enter_leaving-requires-clause-first : goal.enter_leaving-requires-clause-first
enter_leaving-requires-clause-first g c =
    let w : SharedValue = g.S.LegalCalls.value c.args.shared.now in
    let v : SharedValue = g.S.LegalCalls.value c.ran_lent.new.self in
    let k : ℕ = c.args.worker in
    let p : Private = c.args.part in
    let q : Private = c.ran_lent.new.part in
    let a : LeavesPart w v p q c.in-Ok-Leaves.leaving = subst (LentTo w v k p q) c.in-Ok-Leaves.field-0-is c.in-Ok-Leaves.ensures.answered in
    leaves_still w v p q c.in-Ok-Leaves.leaving a (λ (z : SharedValue) (r : Private). first_cause z.end z.steps z.settings k false ≡ None) c.requires.first

pub enter_leaving-requires-clause-fits : goal.enter_leaving-requires-clause-fits
enter_leaving-requires-clause-fits g c =
    let w : SharedValue = g.S.LegalCalls.value c.args.shared.now in
    let v : SharedValue = g.S.LegalCalls.value c.ran_lent.new.self in
    let k : ℕ = c.args.worker in
    let p : Private = c.args.part in
    let q : Private = c.ran_lent.new.part in
    let a : LeavesPart w v p q c.in-Ok-Leaves.leaving = subst (LentTo w v k p q) c.in-Ok-Leaves.field-0-is c.in-Ok-Leaves.ensures.answered in
    leaves_still w v p q c.in-Ok-Leaves.leaving a (λ (z : SharedValue) (r : Private). WorkerPartFits z k r) c.requires.fits

pub enter_leaving-requires-clause-idle : goal.enter_leaving-requires-clause-idle
enter_leaving-requires-clause-idle g c =
    let w : SharedValue = g.S.LegalCalls.value c.args.shared.now in
    let v : SharedValue = g.S.LegalCalls.value c.ran_lent.new.self in
    let k : ℕ = c.args.worker in
    let p : Private = c.args.part in
    let q : Private = c.ran_lent.new.part in
    let a : LeavesPart w v p q c.in-Ok-Leaves.leaving = subst (LentTo w v k p q) c.in-Ok-Leaves.field-0-is c.in-Ok-Leaves.ensures.answered in
    leaves_still w v p q c.in-Ok-Leaves.leaving a (λ (z : SharedValue) (r : Private). r.begun ≡ None) c.requires.idle

pub enter_leaving-requires-clause-shared : goal.enter_leaving-requires-clause-shared
enter_leaving-requires-clause-shared g c =
    let w : SharedValue = g.S.LegalCalls.value c.args.shared.now in
    let v : SharedValue = g.S.LegalCalls.value c.ran_lent.new.self in
    let k : ℕ = c.args.worker in
    let p : Private = c.args.part in
    let q : Private = c.ran_lent.new.part in
    let a : LeavesPart w v p q c.in-Ok-Leaves.leaving = subst (LentTo w v k p q) c.in-Ok-Leaves.field-0-is c.in-Ok-Leaves.ensures.answered in
    leaves_still w v p q c.in-Ok-Leaves.leaving a (λ (z : SharedValue) (r : Private). IsShared z r) c.requires.shared

pub enter_leaving-requires-clause-leaves : goal.enter_leaving-requires-clause-leaves
enter_leaving-requires-clause-leaves g c =
    let w : SharedValue = g.S.LegalCalls.value c.args.shared.now in
    let v : SharedValue = g.S.LegalCalls.value c.ran_lent.new.self in
    let k : ℕ = c.args.worker in
    let p : Private = c.args.part in
    let q : Private = c.ran_lent.new.part in
    let a : LeavesPart w v p q c.in-Ok-Leaves.leaving = subst (LentTo w v k p q) c.in-Ok-Leaves.field-0-is c.in-Ok-Leaves.ensures.answered in
    leaves_still w v p q c.in-Ok-Leaves.leaving a (λ (z : SharedValue) (r : Private). LeavesBy z r c.in-Ok-Leaves.leaving) a.leaves

pub returns-in-Ok-Leaves : goal.returns-in-Ok-Leaves
returns-in-Ok-Leaves g c =
    let w : SharedValue = g.S.LegalCalls.value c.args.shared.now in
    let v : SharedValue = g.S.LegalCalls.value c.ran_lent.new.self in
    let k : ℕ = c.args.worker in
    let p : Private = c.args.part in
    let q : Private = c.ran_lent.new.part in
    let a : LeavesPart w v p q c.in-Ok-Leaves.leaving = subst (LentTo w v k p q) c.in-Ok-Leaves.field-0-is c.in-Ok-Leaves.ensures.answered in
    leaves_before w v p q c.in-Ok-Leaves.leaving a (λ (z : SharedValue) (r : Private). MakesFor z (g.S.LegalCalls.value c.enter_leaving.new.shared) k (alone_entry k r) c.enter_leaving.result) c.enter_leaving.ensures

pub returns-in-Err : goal.returns-in-Err
returns-in-Err g c =
    let w : SharedValue = g.S.LegalCalls.value c.args.shared.now in
    let v : SharedValue = g.S.LegalCalls.value c.ran_lent.new.self in
    let k : ℕ = c.args.worker in
    let p : Private = c.args.part in
    let q : Private = c.ran_lent.new.part in
    ran_fails w v k (alone_entry k p) p q c.in-Err.cause (alone_free w k p c.stands.ensures c.requires.fits c.requires.shared c.requires.idle c.requires.first)
    c.in-Err.ensures.refused c.in-Err.ensures.same c.in-Err.ensures.still c.in-Err.ensures.back c.requires.idle c.requires.fits
