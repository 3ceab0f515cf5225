use Rattle.shared_tree.proofs.Common.{◌≡◌, ℕ, ℤ, ◌+◌, ◌-◌, arith, Option, Some, None, List, [], slice_set, ap, sym, subst, ◌∙◌, w64, to_z-of_z, ReservedVecValue, EntryValue, cell_of, FramesValue, Private, Heaps, ParkedTask, TaskSlotsValue, IsSharedValue, SharedValue, GoesAlone, AsksAlone, asks_alone, alone_small, next_small, StoresNumber, TellsOther, put_rest, store_frames, the_view, cell_with_int, refl}
use Rattle.remote_access.proofs.StoreEntries as entries
use Rattle.shared_tree.proofs.HeapsWritten.{with_heaps, written_by}
use Rattle.shared_tree.proofs.StepsEntered.{along, entered}
use Rattle.shared_tree.proofs.shared.Shared.enter_store_number.Goals as goal
use Rattle.shared_tree.proofs.shared.Shared.enter_store_number.Goals.{After-self}

abbrev written : TaskSlotsValue → List (Option ParkedTask) → TaskSlotsValue
written h rests = record h { rests = rests }

-- What the step asks, and what it does: a number is stored into another's object.
module _ (c : After-self) where
  abbrev w : SharedValue
  w = the_view c.self.inside

  asks : AsksAlone w c.args.worker c.args.part.now
  asks = asks_alone c.self.view_is c.self.invariant c.requires.fits c.requires.shared c.requires.free

  stores : (n : ℕ) × TellsOther w c.args.part.now (StoresNumber c.args.object c.args.field c.args.value) n
  stores = subst (λ (z : SharedValue). (n : ℕ) × TellsOther z c.args.part.now (StoresNumber c.args.object c.args.field c.args.value) n) (sym c.self.view_is) c.requires.stores

pub write_number-requires-clause-used : goal.write_number-requires-clause-used
write_number-requires-clause-used c =
    let b = (goal.at.write_number-requires-clause-used c).After-self in entries.used_number (asks b) c.args.object c.args.field c.args.value (stores b).0 (stores b).1

pub write_number-requires-clause-there : goal.write_number-requires-clause-there
write_number-requires-clause-there c =
    let b = (goal.at.write_number-requires-clause-there c).After-self in entries.there_number (asks b) c.args.object c.args.field c.args.value (stores b).0 (stores b).1

pub write_number-requires-clause-field : goal.write_number-requires-clause-field
write_number-requires-clause-field c =
    let b = (goal.at.write_number-requires-clause-field c).After-self in entries.field_number (asks b) c.args.object c.args.field c.args.value (stores b).0 (stores b).1

pub overflow_add-self-2 : goal.overflow_add-self-2
overflow_add-self-2 c =
    let asks = asks_alone c.self.view_is c.self.invariant c.requires.fits c.requires.shared c.requires.free in
    let small = alone_small asks in
    omega (arith, small.0, small.1)

pub alone_of-requires-clause-few : goal.alone_of-requires-clause-few
alone_of-requires-clause-few c =
    let asks = asks_alone c.self.view_is c.self.invariant c.requires.fits c.requires.shared c.requires.free in
    (alone_small asks).1

pub go_on-requires : goal.go_on-requires
go_on-requires c =
    let asks = asks_alone c.self.view_is c.self.invariant c.requires.fits c.requires.shared c.requires.free in
    let small = next_small asks in
    omega (arith, small)

-- The value afterwards: it is a shared value, and the store entered it.
module _ (c : goal.After-part-1) where
  abbrev b : After-self
  b = (goal.at.invariant_of-self c).After-self

  abbrev v : SharedValue
  v = the_view c.self.inside

  abbrev part : Private
  part = c.args.part.now

  abbrev h : Heaps
  h = c.write_number.new.heaps

  both : IsSharedValue (with_heaps v h (v.steps + (part.fresh + 1)) c.push_reserved.new.self)
      × GoesAlone v (with_heaps v h (v.steps + (part.fresh + 1)) c.push_reserved.new.self) c.args.worker part (record part { frames = store_frames None part.frames; fresh = 0 })
  both =
      let owner = entries.owner_number (asks b) c.args.object c.args.field c.args.value (stores b).0 (stores b).1 in
      let foreign = entries.foreign_number (asks b) c.args.object c.args.field c.args.value (stores b).0 (stores b).1 in
      let put : ℤ → TaskSlotsValue = λ z. written c.self.inside.heaps.task_slots (slice_set v.rests owner (Some (put_rest foreign.rest c.args.object (cell_with_int (cell_of foreign.rest.heap.chunks c.args.object) c.args.field z)))) in
      let task_slots : h.task_slots ≡ put c.args.value = c.write_number.ensures.written owner foreign.rest foreign.place.chunk foreign.there ∙ ap put (to_z-of_z w64 c.args.value c.ranges.value) in
      let space : ReservedVecValue EntryValue = record { items = []; room = v.journal.room - 1 } in
      along v c.args.worker part part refl _ _ c.alone_of.ensures c.push_reserved.ensures (λ n j. IsSharedValue (with_heaps v h n j) × GoesAlone v (with_heaps v h n j) c.args.worker part (record part { frames = store_frames None part.frames; fresh = 0 }))
      (subst (λ (z : SharedValue). IsSharedValue z × GoesAlone v z c.args.worker part (record part { frames = store_frames None part.frames; fresh = 0 })) (written_by v (v.steps + (part.fresh + 1)) (entered v c.args.worker part) h _ v.sets c.write_number.ensures.pool (ap (λ (z : TaskSlotsValue). z.marks) task_slots) (ap (λ (z : TaskSlotsValue). z.rests) task_slots) (ap (λ (z : TaskSlotsValue). z.sets) task_slots)) (
        entries.number_world (asks b) c.args.object c.args.field c.args.value (stores b).0 (stores b).1 space,
        entries.number_goes (asks b) c.args.object c.args.field c.args.value (stores b).0 (stores b).1 space,
      ))

pub invariant_of-self : goal.invariant_of-self
invariant_of-self c = (both c).0

pub returns : goal.returns
returns c =
    subst (λ (z : SharedValue). GoesAlone z (with_heaps (v c) (h c) ((v c).steps + ((part c).fresh + 1)) c.push_reserved.new.self) c.args.worker c.args.part.now (record c.args.part.now { frames = c.go_on.new.frames; fresh = 0 })) c.self.view_is
    (subst (λ (s : FramesValue). GoesAlone (v c) (with_heaps (v c) (h c) ((v c).steps + ((part c).fresh + 1)) c.push_reserved.new.self) c.args.worker c.args.part.now (record c.args.part.now { frames = s; fresh = 0 })) (sym c.go_on.ensures) (both c).1)
