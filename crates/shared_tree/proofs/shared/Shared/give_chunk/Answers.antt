use Rattle.shared_tree.proofs.Common.{◌≡◌, ℕ, ◌+◌, ◌-◌, ◌<◌, ◌≤◌, Some, [], inl, inr, Ok, Err, refl, ap, sym, subst, ◌∙◌, Result, cases_lt, OnErr, ReservedVecValue, EntryValue, Chunk, Pool as PoolOf, chunk_units, NotTaken, Full, PoolValue, units_in_use, LeafHeapValue, IsFresh, added, with_places, Private, SharedValue, IsSharedValue, WorkerPartFits, OthersFit, part_asks, Enters, journal_by, places_fit, the_view, fresh, chunk_entered, full_entered, AsksLeaf, LeafEntered, asks_leaf}
use Rattle.shared_tree.proofs.shared.Shared.give_chunk.Goals as goal
use Rattle.shared_tree.proofs.shared.Shared.give_chunk.Goals.{After-push_reserved, After-push_reserved-in-Err-Full, After-units_for-units}

-- not full
not_full : {A : Type 0} (x : A) → Ok x ≡ Err Full → ⊥
not_full x e = cc

within_by : (limit used : ℕ) → (limit < used → ⊥) → used ≤ limit
within_by limit used f = elim (cases_lt limit used) [ inl lt ↦ absurd (f lt) | inr le ↦ le ]

-- What is asked, and how many units the code takes.
module _ (c : After-units_for-units) where
  asks : AsksLeaf Chunk (the_view c.self.inside) c.args.worker c.args.part.now
  asks = asks_leaf Chunk c.self.view_is c.self.invariant c.requires.fits c.requires.fresh c.requires.free

  sized : c.units_for-units.result ≡ chunk_units (part_asks (the_view c.self.inside).program c.args.part.now)
  sized = c.units_for-units.ensures.units ∙ ap chunk_units c.words_asked.ensures.asked

pub add_spare-requires-clause-fresh : goal.add_spare-requires-clause-fresh
add_spare-requires-clause-fresh c =
    let b = (goal.at.add_spare-requires-clause-fresh c).After-units_for-units in
    let w : SharedValue = the_view c.self.inside in
    let within = within_by w.pool.limit (units_in_use w.pool + c.units_for-units.result) (λ lt. not_full c.in-Ok.chunk (c.in-Ok.ensures.full.1 lt)) in
    subst (λ (h : LeafHeapValue). IsFresh h.chunks c.in-Ok.chunk.number) (sym c.make_room.ensures.kept) (fresh (asks b) (sized b) within c.in-Ok.ensures.taken (record { items = []; room = 0 }) 0 0)

-- The value after a chunk was given: the entry led to it.
module _ (c : After-push_reserved) where
  abbrev b : After-units_for-units
  b = (goal.at.invariant_of-self c).After-units_for-units

  abbrev w : SharedValue
  w = the_view c.self.inside

  abbrev p : Private
  p = c.args.part.now

  abbrev e : EntryValue
  e = record { worker = c.args.worker; kind = Chunk p.task }

  abbrev room : LeafHeapValue
  room = c.make_room.new.self

  abbrev more : LeafHeapValue
  more = c.add_spare.new.self

  abbrev with : ReservedVecValue EntryValue → SharedValue
  with j = record w { pool = c.take.new.self; journal = j }

  made : LeafEntered w (with c.push_reserved.new.self) e (record p { heap = more })
  made =
      let within = within_by w.pool.limit (units_in_use w.pool + c.units_for-units.result) (λ lt. not_full c.in-Ok.chunk (c.in-Ok.ensures.full.1 lt)) in
      let entered = chunk_entered (asks b) (sized b) within c.in-Ok.ensures.taken (record { items = []; room = w.journal.room - 1 }) more.slots more.spare c.in-Ok.chunk c.in-Ok.ensures.chunk room.slots room.spare in
      let heap : more ≡ with_places (added (with_places p.heap room.slots room.spare) c.in-Ok.chunk) more.slots more.spare =
      c.add_spare.ensures.added ∙ ap (λ (h : LeafHeapValue). with_places (added h c.in-Ok.chunk) more.slots more.spare) c.make_room.ensures.kept in
      subst (λ (h : LeafHeapValue). LeafEntered w (with c.push_reserved.new.self) e (record p { heap = h })) (sym heap)
      (subst (λ (j : ReservedVecValue EntryValue). LeafEntered w (with j) e (record p { heap = with_places (added (with_places p.heap room.slots room.spare) c.in-Ok.chunk) more.slots more.spare })) (sym (journal_by w.journal _ _ e c.new.ensures c.push_reserved.ensures)) entered)

pub invariant_of-self : goal.invariant_of-self
invariant_of-self c = (made c).world

pub returns-in-Ok-clause-fits : goal.returns-in-Ok-clause-fits
returns-in-Ok-clause-fits c = (made c).part

pub returns-in-Ok-clause-others : goal.returns-in-Ok-clause-others
returns-in-Ok-clause-others c = subst (λ (z : SharedValue). OthersFit z (with c c.push_reserved.new.self) c.args.worker) c.self.view_is (made c).others

pub returns-in-Ok-clause-enters : goal.returns-in-Ok-clause-enters
returns-in-Ok-clause-enters c = subst (λ (z : SharedValue). Enters z (with c c.push_reserved.new.self) (e c)) c.self.view_is (made c).enters

-- the value after the run ended, as the code made it
pool_same : (w : SharedValue) (pool : PoolValue) (j j' : ReservedVecValue EntryValue) (n : ℕ) → pool ≡ w.pool → j' ≡ j → n ≡ units_in_use pool → record w { journal = j; end = Some (PoolOf (units_in_use w.pool)) } ≡ record w { pool = pool; journal = j'; end = Some (PoolOf n) }
pool_same w pool j j' n ep ej en =
    sym (ap (λ m. record w { pool = pool; journal = j'; end = Some (PoolOf m) }) en
    ∙ (ap (λ (z : PoolValue). record w { pool = z; journal = j'; end = Some (PoolOf (units_in_use z)) }) ep ∙ ap (λ (z : ReservedVecValue EntryValue). record w { journal = z; end = Some (PoolOf (units_in_use w.pool)) }) ej))

-- The value after the run ended since too few were free: the entry led to it.
module _ (c : After-push_reserved-in-Err-Full) where
  abbrev b' : After-units_for-units
  b' = (goal.at.invariant_of-self-in-Err-Full c).After-units_for-units

  abbrev old : SharedValue
  old = the_view c.self.inside

  abbrev part : Private
  part = c.args.part.now

  abbrev entry : EntryValue
  entry = record { worker = c.args.worker; kind = Chunk part.task }

  abbrev ended : SharedValue
  ended = record old { pool = c.take.new.self; journal = c.push_reserved-in-Err-Full.new.self; end = Some (PoolOf c.in_use.result) }

  ended_made : LeafEntered old ended entry (record part { heap = c.make_room.new.self })
  ended_made =
      let full = c.in-Err-Full.ensures.full.0 (ap (λ (x : NotTaken). Err x) c.in-Err-Full.field-0-is) in
      let same = pool_same old c.take.new.self _ c.push_reserved-in-Err-Full.new.self c.in_use.result c.in-Err-Full.ensures.err (journal_by old.journal _ _ entry c.new-in-Err-Full.ensures c.push_reserved-in-Err-Full.ensures) c.in_use.ensures.units in
      subst (λ (h : LeafHeapValue). LeafEntered old ended entry (record part { heap = h })) (sym c.make_room.ensures.kept)
      (subst (λ (z : SharedValue). LeafEntered old z entry (record part { heap = with_places part.heap c.make_room.new.self.slots c.make_room.new.self.spare })) same
      (full_entered (asks b') c.units_for-units.result (sized b') full (record { items = []; room = old.journal.room - 1 }) c.make_room.new.self.slots c.make_room.new.self.spare))

pub invariant_of-self-in-Err-Full : goal.invariant_of-self-in-Err-Full
invariant_of-self-in-Err-Full c = (ended_made c).world

pub returns-in-Err-Full-clause-fits : goal.returns-in-Err-Full-clause-fits
returns-in-Err-Full-clause-fits c = (ended_made c).part

pub returns-in-Err-Full-clause-others : goal.returns-in-Err-Full-clause-others
returns-in-Err-Full-clause-others c = subst (λ (z : SharedValue). OthersFit z (ended c) c.args.worker) c.self.view_is (ended_made c).others

pub returns-in-Err-Full-clause-enters : goal.returns-in-Err-Full-clause-enters
returns-in-Err-Full-clause-enters c = subst (λ (z : SharedValue). Enters z (ended c) (entry c)) c.self.view_is (ended_made c).enters

pub returns-in-Err-NoMemory-clause-fits : goal.returns-in-Err-NoMemory-clause-fits
returns-in-Err-NoMemory-clause-fits c =
    let w : SharedValue = the_view c.self.inside in
    let p : Private = c.args.part.now in
    let k : ℕ = c.args.worker in
    let F : WorkerPartFits w k p = subst (λ (z : SharedValue). WorkerPartFits z k p) (sym c.self.view_is) c.requires.fits in
    subst (λ (z : PoolValue). WorkerPartFits (record w { pool = z }) k (record p { heap = c.make_room.new.self })) (sym c.in-Err-NoMemory.ensures.err)
    (subst (λ (h : LeafHeapValue). WorkerPartFits w k (record p { heap = h })) (sym c.make_room.ensures.kept) (places_fit w k p c.make_room.new.self.slots c.make_room.new.self.spare F))

pub returns-in_err-make_room-clause-fits : goal.returns-in_err-make_room-clause-fits
returns-in_err-make_room-clause-fits c =
    let p : Private = c.args.part.now in
    subst (λ (h : LeafHeapValue). WorkerPartFits c.args.self.now c.args.worker (record p { heap = h })) (sym c.make_room.ensures.kept)
    (places_fit c.args.self.now c.args.worker p c.make_room.new.self.slots c.make_room.new.self.spare c.requires.fits)

pub returns-in-Err-NoMemory-clause-same : goal.returns-in-Err-NoMemory-clause-same
returns-in-Err-NoMemory-clause-same c = ap (λ (z : PoolValue). record (the_view c.self.inside) { pool = z }) c.in-Err-NoMemory.ensures.err ∙ c.self.view_is

on_err : {A E P : Type 0} (r : Result A E) → P → OnErr r P
on_err (Ok x) p = tt
on_err (Err e) p = p

pub invariant_of-self-in-Err-NoMemory : goal.invariant_of-self-in-Err-NoMemory
invariant_of-self-in-Err-NoMemory c = subst (λ (z : PoolValue). IsSharedValue (record (the_view c.self.inside) { pool = z })) (sym c.in-Err-NoMemory.ensures.err) c.self.invariant

pub push_reserved-requires : goal.push_reserved-requires
push_reserved-requires c = subst (λ (z : SharedValue). 0 < z.journal.room) (sym c.self.view_is) c.requires.room

pub push_reserved-requires-in-Err-Full : goal.push_reserved-requires-in-Err-Full
push_reserved-requires-in-Err-Full c = subst (λ (z : SharedValue). 0 < z.journal.room) (sym c.self.view_is) c.requires.room

pub returns-in-Err-NoMemory-clause-back : goal.returns-in-Err-NoMemory-clause-back
returns-in-Err-NoMemory-clause-back c = ap (λ (h : LeafHeapValue). record c.args.part.now { heap = h }) c.make_room.ensures.kept

pub returns-in-Err-NoMemory-clause-rest : goal.returns-in-Err-NoMemory-clause-rest
returns-in-Err-NoMemory-clause-rest c = refl

pub returns-in-Ok-clause-rest : goal.returns-in-Ok-clause-rest
returns-in-Ok-clause-rest c = refl

pub returns-in_err-make_room-clause-back : goal.returns-in_err-make_room-clause-back
returns-in_err-make_room-clause-back c = on_err c.from_residual.result (ap (λ (h : LeafHeapValue). record c.args.part.now { heap = h }) c.make_room.ensures.kept)

pub returns-in_err-make_room-clause-same : goal.returns-in_err-make_room-clause-same
returns-in_err-make_room-clause-same c = on_err c.from_residual.result refl

pub returns-in_err-make_room-clause-rest : goal.returns-in_err-make_room-clause-rest
returns-in_err-make_room-clause-rest c = refl

pub take-requires-clause-few : goal.take-requires-clause-few
take-requires-clause-few c = c.units_for-units.ensures.few

pub take-requires-clause-some : goal.take-requires-clause-some
take-requires-clause-some c = c.units_for-units.ensures.some
