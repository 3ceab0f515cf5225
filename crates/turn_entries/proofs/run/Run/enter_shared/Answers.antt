use Rattle.turn_entries.proofs.Common.{ℕ, ◌+◌, Option, Some, ap, sym, subst, ◌∙◌, is_some, Kind, Ran, Nothing, RunEnd, Private, Shared, IsCaused, IsSharedValue, refused, WorkerPartFits, SharedValue, GoesAlone, HaltsAlone, IsShared, alone_entry, alone_free, LeavesPart, LentTo, IsPaused, MayEnter}
use Rattle.turn_entries.specs.declared.between_turns.Ready.TheVariants.{Paused as HasPaused}
use Rattle.turn_entries.proofs.Free.{only_memory}
use Rattle.turn_entries.proofs.Going.{may_alone, stands_shared, still_paused}
use Rattle.turn_entries.proofs.Paying.{pays_nothing}
use Rattle.turn_entries.proofs.Turning.{acts_same, not_over, one, unentered}
use Rattle.turn_entries.proofs.run.Run.enter_shared.Goals as goal

pub ran_lent-requires-clause-room : goal.ran_lent-requires-clause-room
ran_lent-requires-clause-room g c = c.requires.enter.room

pub ran_lent-requires-clause-fits : goal.ran_lent-requires-clause-fits
ran_lent-requires-clause-fits g c = subst (WorkerPartFits (g.P.EntryCalls.value c.args.self.now.paced) c.args.worker) (sym c.get_mut.ensures.value) c.requires.paused.may.fits

pub ran_lent-requires-clause-shared : goal.ran_lent-requires-clause-shared
ran_lent-requires-clause-shared g c = subst (IsShared (g.P.EntryCalls.value c.args.self.now.paced)) (sym c.get_mut.ensures.value) (stands_shared (g.P.EntryCalls.value c.args.self.now.paced) c.args.worker c.args.part c.requires.paused)

pub ran_lent-requires-clause-pays : goal.ran_lent-requires-clause-pays
ran_lent-requires-clause-pays g c = pays_nothing (g.P.EntryCalls.value c.args.self.now.paced) c.args.worker (Ran c.get_mut.result.now.task (c.get_mut.result.now.fresh + 1)) c.requires.enter.owed

pub returns-in-Ok-Goes : goal.returns-in-Ok-Goes
returns-in-Ok-Goes g c =
    let w : SharedValue = (g.P.EntryCalls.value c.args.self.now.paced) in
    let v : SharedValue = (g.P.EntryCalls.value c.ran_lent.new.self) in
    let k : ℕ = c.args.worker in
    let p : Private = c.args.part in
    let q : Private = c.ran_lent.new.part in
    let a : GoesAlone w v k c.get_mut.result.now q = subst (LentTo w v k c.get_mut.result.now q) c.in-Ok-Goes.field-0-is c.in-Ok-Goes.ensures.answered in
    let b : GoesAlone w v k p q = subst (λ (r : Private). GoesAlone w v k r q) c.get_mut.ensures.value a in
    let kind : Kind = Ran p.task (p.fresh + 1) in
    c.entered.ensures (g.P.EntryCalls.value c.args.self.now.paced) k (HasPaused p Shared) kind (one w v k kind b.enters b.others) c.requires.enter.on
    (λ on. (on, may_alone v k p q b.fits c.requires.paused.may.idle b.part))

pub returns-in-Ok-Over : goal.returns-in-Ok-Over
returns-in-Ok-Over g c =
    let w : SharedValue = (g.P.EntryCalls.value c.args.self.now.paced) in
    let v : SharedValue = (g.P.EntryCalls.value c.ran_lent.new.self) in
    let k : ℕ = c.args.worker in
    let p : Private = c.args.part in
    let q : Private = c.ran_lent.new.part in
    let a : HaltsAlone w v k c.get_mut.result.now q = subst (LentTo w v k c.get_mut.result.now q) c.in-Ok-Over.field-0-is c.in-Ok-Over.ensures.answered in
    let b : HaltsAlone w v k p q = subst (λ (r : Private). HaltsAlone w v k r q) c.get_mut.ensures.value a in
    let kind : Kind = Ran p.task (p.fresh + 1) in
    c.entered-in-Ok-Over.ensures (g.P.EntryCalls.value c.args.self.now.paced) k (HasPaused p Shared) kind (one w v k kind b.enters b.others) c.requires.enter.on
    (λ on. ap (λ (o : Option RunEnd). is_some o) b.halts.1)

pub ran_leaving-left-requires-clause-fits : goal.ran_leaving-left-requires-clause-fits
ran_leaving-left-requires-clause-fits g c =
    let w : SharedValue = (g.P.EntryCalls.value c.args.self.now.paced) in
    let v : SharedValue = (g.P.EntryCalls.value c.ran_lent.new.self) in
    let k : ℕ = c.args.worker in
    let p : Private = c.args.part in
    let q : Private = c.ran_lent.new.part in
    let a : LeavesPart w v c.get_mut.result.now q c.in-Ok-Leaves.leaving = subst (LentTo w v k c.get_mut.result.now q) c.in-Ok-Leaves.field-0-is c.in-Ok-Leaves.ensures.answered in
    let P : IsPaused v k q Shared = still_paused w v k p q a.same (a.part ∙ c.get_mut.ensures.value) c.requires.paused in
    P.may.fits

pub ran_leaving-left-requires-clause-shared : goal.ran_leaving-left-requires-clause-shared
ran_leaving-left-requires-clause-shared g c =
    let w : SharedValue = (g.P.EntryCalls.value c.args.self.now.paced) in
    let v : SharedValue = (g.P.EntryCalls.value c.ran_lent.new.self) in
    let k : ℕ = c.args.worker in
    let p : Private = c.args.part in
    let q : Private = c.ran_lent.new.part in
    let a : LeavesPart w v c.get_mut.result.now q c.in-Ok-Leaves.leaving = subst (LentTo w v k c.get_mut.result.now q) c.in-Ok-Leaves.field-0-is c.in-Ok-Leaves.ensures.answered in
    let P : IsPaused v k q Shared = still_paused w v k p q a.same (a.part ∙ c.get_mut.ensures.value) c.requires.paused in
    stands_shared v k q P

pub ran_leaving-left-requires-clause-free : goal.ran_leaving-left-requires-clause-free
ran_leaving-left-requires-clause-free g c =
    let w : SharedValue = (g.P.EntryCalls.value c.args.self.now.paced) in
    let v : SharedValue = (g.P.EntryCalls.value c.ran_lent.new.self) in
    let k : ℕ = c.args.worker in
    let p : Private = c.args.part in
    let q : Private = c.ran_lent.new.part in
    let a : LeavesPart w v c.get_mut.result.now q c.in-Ok-Leaves.leaving = subst (LentTo w v k c.get_mut.result.now q) c.in-Ok-Leaves.field-0-is c.in-Ok-Leaves.ensures.answered in
    let P : IsPaused v k q Shared = still_paused w v k p q a.same (a.part ∙ c.get_mut.ensures.value) c.requires.paused in
    let I : IsSharedValue v = subst IsSharedValue (sym a.same) c.stands.ensures.stands in
    let E : MayEnter v k Nothing = subst (λ (z : SharedValue). MayEnter z k Nothing) (sym a.same) c.requires.enter in
    alone_free v k q I P.may.fits (stands_shared v k q P) P.may.idle E.free

pub ran_leaving-left-requires-clause-pays : goal.ran_leaving-left-requires-clause-pays
ran_leaving-left-requires-clause-pays g c =
    let w : SharedValue = (g.P.EntryCalls.value c.args.self.now.paced) in
    let v : SharedValue = (g.P.EntryCalls.value c.ran_lent.new.self) in
    let k : ℕ = c.args.worker in
    let p : Private = c.args.part in
    let q : Private = c.ran_lent.new.part in
    let a : LeavesPart w v c.get_mut.result.now q c.in-Ok-Leaves.leaving = subst (LentTo w v k c.get_mut.result.now q) c.in-Ok-Leaves.field-0-is c.in-Ok-Leaves.ensures.answered in
    let E : MayEnter v k Nothing = subst (λ (z : SharedValue). MayEnter z k Nothing) (sym a.same) c.requires.enter in
    pays_nothing v k (Ran q.task (q.fresh + 1)) E.owed

pub returns-in-Ok-Leaves : goal.returns-in-Ok-Leaves
returns-in-Ok-Leaves g c =
    let w : SharedValue = (g.P.EntryCalls.value c.args.self.now.paced) in
    let v : SharedValue = (g.P.EntryCalls.value c.ran_lent.new.self) in
    let k : ℕ = c.args.worker in
    let p : Private = c.args.part in
    let q : Private = c.ran_lent.new.part in
    let a : LeavesPart w v c.get_mut.result.now q c.in-Ok-Leaves.leaving = subst (LentTo w v k c.get_mut.result.now q) c.in-Ok-Leaves.field-0-is c.in-Ok-Leaves.ensures.answered in
    let E : MayEnter v k Nothing = subst (λ (z : SharedValue). MayEnter z k Nothing) (sym a.same) c.requires.enter in
    acts_same w v (g.P.EntryCalls.value c.after_leaving.new.self.paced) k p q a.same (a.part ∙ c.get_mut.ensures.value) c.after_leaving.result (c.after_leaving.ensures v k q c.ran_leaving-left.ensures E.on E.goes)

pub out_of_memory-requires : goal.out_of_memory-requires
out_of_memory-requires g c = record {
  cause =
      only_memory c.in-Err.cause _ (alone_free (g.P.EntryCalls.value c.args.self.now.paced) c.args.worker c.args.part c.stands.ensures.stands c.requires.paused.may.fits (stands_shared (g.P.EntryCalls.value c.args.self.now.paced) c.args.worker c.args.part c.requires.paused) c.requires.paused.may.idle c.requires.enter.free)
      (subst (λ (r : Private). IsCaused c.in-Err.cause (refused (g.P.EntryCalls.value c.args.self.now.paced) (alone_entry c.args.worker r))) c.get_mut.ensures.value c.in-Err.ensures.refused);
}

pub returns-in-Err : goal.returns-in-Err
returns-in-Err g c =
    c.out_of_memory.ensures (g.P.EntryCalls.value c.args.self.now.paced) c.args.worker (HasPaused c.args.part Shared) (Some (Ran c.args.part.task (c.args.part.fresh + 1)))
    (unentered (g.P.EntryCalls.value c.args.self.now.paced) (g.P.EntryCalls.value c.ran_lent.new.self) c.in-Err.cause c.in-Err.ensures.same c.in-Err.ensures.still) (not_over (g.P.EntryCalls.value c.args.self.now.paced) c.requires.enter.on c.requires.enter.goes)
