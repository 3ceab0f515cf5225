use Rattle.shared_tree.proofs.Common.{◌≡◌, ℕ, ◌+◌, ◌-◌, arith, List, [], refl, sym, subst, Result, Ok, Err, OnErr, ReservedVecValue, EntryValue, FramesValue, SetOf, content_at, Private, Heaps, IsSharedValue, SharedValue, GoesAlone, AsksAlone, asks_alone, alone_small, next_small, SameButRoom, TellsOther, store_frames, store_of, roomier_same, roomier_world, the_view}
use Rattle.remote_access.proofs.StoreEntries as entries
use Rattle.shared_tree.proofs.HeapsWritten.{with_heaps, written_by}
use Rattle.shared_tree.proofs.StepsEntered.{along, entered}
use Rattle.shared_tree.proofs.shared.Shared.enter_store.Goals as goal
use Rattle.shared_tree.proofs.shared.Shared.enter_store.Goals.{After-self}

always_err : {A E P : Type 0} (r : Result A E) → P → OnErr r P
always_err (Ok x) h = tt
always_err (Err e) h = h

-- What the step asks, and what it does: a store into another's object.
module _ (c : After-self) where
  abbrev w : SharedValue
  w = the_view c.self.inside

  abbrev p : Private
  p = c.args.part.now

  asks : AsksAlone w c.args.worker p
  asks = asks_alone c.self.view_is c.self.invariant c.requires.fits c.requires.shared c.requires.free

  stores : (n : ℕ) × TellsOther w p (store_of c.args.swap c.args.object c.args.field c.args.value) n
  stores = subst (λ (z : SharedValue). (n : ℕ) × TellsOther z p (store_of c.args.swap c.args.object c.args.field c.args.value) n) (sym c.self.view_is) c.requires.stores

pub write_reference-requires-clause-there : goal.write_reference-requires-clause-there
write_reference-requires-clause-there c =
    let b = (goal.at.write_reference-requires-clause-there c).After-self in entries.writable (asks b) c.args.swap c.args.object c.args.field c.args.value (stores b).0 (stores b).1

pub write_reference-requires-clause-value : goal.write_reference-requires-clause-value
write_reference-requires-clause-value c =
    let b = (goal.at.write_reference-requires-clause-value c).After-self in entries.value_owned (asks b) c.args.swap c.args.object c.args.field c.args.value (stores b).0 (stores b).1

pub write_reference-requires-clause-place : goal.write_reference-requires-clause-place
write_reference-requires-clause-place c =
    let b = (goal.at.write_reference-requires-clause-place c).After-self in entries.value_place (asks b) c.args.swap c.args.object c.args.field c.args.value (stores b).0 (stores b).1

-- If the store finds no memory, the sets have more room at most.
module _ (c : goal.After-from_residual) where
  abbrev old : SharedValue
  old = the_view c.self.inside

  abbrev sets : List SetOf
  sets = c.write_reference.new.heaps.task_slots.sets

  roomier : IsSharedValue (with_heaps old c.write_reference.new.heaps old.steps old.journal) × SameButRoom old (with_heaps old c.write_reference.new.heaps old.steps old.journal)
  roomier =
      let same : (z : ℕ) → content_at sets z ≡ content_at old.sets z = c.in_err-write_reference.ensures.no_sets in
      subst (λ (z : SharedValue). IsSharedValue z × SameButRoom old z) (written_by old old.steps old.journal c.write_reference.new.heaps old.rests sets c.write_reference.ensures.pool c.write_reference.ensures.marks c.in_err-write_reference.ensures.same refl)
      (roomier_world old sets c.write_reference.ensures.many same c.self.invariant, roomier_same old sets c.write_reference.ensures.many same)

pub invariant_of-self : goal.invariant_of-self
invariant_of-self c = (roomier c).0

pub returns-in_err-write_reference-clause-same : goal.returns-in_err-write_reference-clause-same
returns-in_err-write_reference-clause-same c =
    always_err c.from_residual.result (subst (λ (z : SharedValue). SameButRoom z (with_heaps (old c) c.write_reference.new.heaps (old c).steps (old c).journal)) c.self.view_is (roomier c).1)

pub overflow_add-self-2 : goal.overflow_add-self-2
overflow_add-self-2 c =
    let asks = asks_alone c.self.view_is c.self.invariant c.requires.fits c.requires.shared c.requires.free in
    let small = alone_small asks in
    omega (arith, small.0, small.1)

pub alone_of-requires-clause-few : goal.alone_of-requires-clause-few
alone_of-requires-clause-few c =
    let asks = asks_alone c.self.view_is c.self.invariant c.requires.fits c.requires.shared c.requires.free in
    (alone_small asks).1

pub go_on-requires : goal.go_on-requires
go_on-requires c =
    let asks = asks_alone c.self.view_is c.self.invariant c.requires.fits c.requires.shared c.requires.free in
    let small = next_small asks in
    omega (arith, small)

-- The value afterwards: it is a shared value, and the store entered it.
module _ (c : goal.After-part-1) where
  abbrev b : After-self
  b = (goal.at.invariant_of-self-2 c).After-self

  abbrev v : SharedValue
  v = the_view c.self.inside

  abbrev part : Private
  part = c.args.part.now

  abbrev k : ℕ
  k = c.args.worker

  abbrev h : Heaps
  h = c.write_reference.new.heaps

  abbrev target : ℕ
  target = entries.owner (asks b) c.args.swap c.args.object c.args.field c.args.value (stores b).0 (stores b).1

  abbrev went : Private
  went = record part { frames = store_frames c.args.swap part.frames; fresh = 0 }

  both : IsSharedValue (with_heaps v h (v.steps + (part.fresh + 1)) c.push_reserved.new.self) × GoesAlone v (with_heaps v h (v.steps + (part.fresh + 1)) c.push_reserved.new.self) k part went
  both =
      let foreign = entries.foreign (asks b) c.args.swap c.args.object c.args.field c.args.value (stores b).0 (stores b).1 in
      let rests = c.in_ok-write_reference.ensures.written target foreign.rest foreign.place.chunk foreign.there in
      let noted = c.in_ok-write_reference.ensures.noted target foreign.rest foreign.place.chunk foreign.there in
      let space : ReservedVecValue EntryValue = record { items = []; room = v.journal.room - 1 } in
      along v k part part refl _ _ c.alone_of.ensures c.push_reserved.ensures (λ n j. IsSharedValue (with_heaps v h n j) × GoesAlone v (with_heaps v h n j) k part went)
      (subst (λ (z : SharedValue). IsSharedValue z × GoesAlone v z k part went) (written_by v (v.steps + (part.fresh + 1)) (entered v k part) h _ h.task_slots.sets c.write_reference.ensures.pool c.write_reference.ensures.marks rests refl) (
        entries.store_world (asks b) c.args.swap c.args.object c.args.field c.args.value (stores b).0 (stores b).1 h.task_slots.sets c.write_reference.ensures.many noted space,
        entries.store_goes (asks b) c.args.swap c.args.object c.args.field c.args.value (stores b).0 (stores b).1 h.task_slots.sets c.write_reference.ensures.many noted space,
      ))

pub invariant_of-self-2 : goal.invariant_of-self-2
invariant_of-self-2 c = (both c).0

pub returns-clause-goes : goal.returns-clause-goes
returns-clause-goes c =
    subst (λ (z : SharedValue). GoesAlone z (with_heaps (v c) (h c) ((v c).steps + ((part c).fresh + 1)) c.push_reserved.new.self) c.args.worker c.args.part.now (record c.args.part.now { frames = c.go_on.new.frames; fresh = 0 })) c.self.view_is
    (subst (λ (s : FramesValue). GoesAlone (v c) (with_heaps (v c) (h c) ((v c).steps + ((part c).fresh + 1)) c.push_reserved.new.self) c.args.worker c.args.part.now (record c.args.part.now { frames = s; fresh = 0 })) (sym c.go_on.ensures) (both c).1)
