use Rattle.shared_tree.proofs.Common.{begin_count, begin_few, begin_free, begins, begins_with, places_fit, AsksLeaf, LeafEntered, asks_leaf, begin_idle, journal_by, PoolValue, TakesAll, SharedValue, IsSharedValue, WorkerPartFits, OthersFit, take_by, CopyingHasBegun, roots_of, saturating_words, with_places, small_words, ChunkValue, number_of, ReservedVecValue, EntryValue, Begin, Private, the_view, ◌≡◌, sym, subst, List, ◌∙◌, Some, refl, ap, ◌-◌, [], map, arith, ◌<◌, ℕ}
use Rattle.shared_tree.proofs.shared.Shared.enter_begin.Goals as goal
use Rattle.shared_tree.proofs.shared.Shared.enter_begin.Goals.{After-chunks_for-count, After-push_reserved}

-- What is asked, and how many chunks the code takes.
module _ (c : After-chunks_for-count) where
  asks : AsksLeaf Begin (the_view c.self.inside) c.args.worker c.args.part.now
  asks = asks_leaf Begin c.self.view_is c.self.invariant c.requires.fits c.requires.fresh c.requires.free

  count : c.chunks_for-count.result ≡ take_by (saturating_words (small_words c.args.part.now.heap.chunks))
  count = c.chunks_for-count.ensures.take ∙ ap take_by c.small_words.ensures

pub overflow_cast-count : goal.overflow_cast-count
overflow_cast-count c =
    let few = begin_few (asks c) c.chunks_for-count.result (count c) in
    omega (arith, few)

pub roots-requires-clause-fits : goal.roots-requires-clause-fits
roots-requires-clause-fits c = (c.args.worker, c.requires.fits)

pub roots-requires-clause-fresh : goal.roots-requires-clause-fresh
roots-requires-clause-fresh c = c.requires.fresh

pub returns-in_err-roots-clause-fits : goal.returns-in_err-roots-clause-fits
returns-in_err-roots-clause-fits c = c.requires.fits

pub begin_with-requires : goal.begin_with-requires
begin_with-requires c =
    let b = (goal.at.begin_with-requires c).After-chunks_for-count in
    record { idle = begin_idle (asks b); few = begin_few (asks b) c.chunks_for-count.result (count b); free = begin_free (asks b) c.chunks_for-count.result (count b) }

pub invariant_of-self : goal.invariant_of-self
invariant_of-self c = subst (λ (z : PoolValue). IsSharedValue (record (the_view c.self.inside) { pool = z })) (sym c.in_err-to.ensures.same) c.self.invariant

pub returns-in_err-to-clause-fits : goal.returns-in_err-to-clause-fits
returns-in_err-to-clause-fits c =
    let w : SharedValue = the_view c.self.inside in
    let p : Private = c.args.part.now in
    let k : ℕ = c.args.worker in
    let q : Private = c.begin_with.new.part in
    let F : WorkerPartFits w k p = subst (λ (z : SharedValue). WorkerPartFits z k p) (sym c.self.view_is) c.requires.fits in
    subst (λ (z : PoolValue). WorkerPartFits (record w { pool = z }) k q) (sym c.in_err-to.ensures.same)
    (subst (λ (x : Private). WorkerPartFits w k x) (sym c.in_err-to.ensures.back) (places_fit w k p q.heap.slots q.heap.spare F))

pub push_reserved-requires : goal.push_reserved-requires
push_reserved-requires c = subst (λ (z : SharedValue). 0 < z.journal.room) (sym c.self.view_is) c.requires.room

-- The value afterwards: the entry led to it, and the collection of the part has begun.
module _ (c : After-push_reserved) where
  abbrev b : After-chunks_for-count
  b = (goal.at.invariant_of-self-2 c).After-chunks_for-count

  abbrev w : SharedValue
  w = the_view c.self.inside

  abbrev p : Private
  p = c.args.part.now

  abbrev e : EntryValue
  e = record { worker = c.args.worker; kind = Begin p.task }

  abbrev q : Private
  q = c.begin_with.new.part

  abbrev news : List ChunkValue
  news = c.in_ok-to.to.chunks.items

  abbrev with : ReservedVecValue EntryValue → SharedValue
  with j = record w { pool = c.begin_with.new.pool; journal = j }

  abbrev left : ReservedVecValue EntryValue
  left = record { items = []; room = w.journal.room - 1 }

  taken : TakesAll w.pool c.begin_with.new.pool p.task (take_by (small_words p.heap.chunks)) [] news
  taken = subst (λ n. TakesAll w.pool c.begin_with.new.pool p.task n [] news) (begin_count (asks b) c.chunks_for-count.result (count b)) c.in_ok-to.ensures.taken

  roots : c.deref.result.now ≡ roots_of w p
  roots = c.deref.ensures.value ∙ (c.in_ok-roots.ensures ∙ ap (λ (z : SharedValue). roots_of z p) (sym c.self.view_is))

  abbrev collecting : Private
  collecting = record p { heap = with_places p.heap q.heap.slots q.heap.spare; begun = Some (record { roots = c.deref.result.now; news = map number_of news }) }

  made : LeafEntered w (with c.push_reserved.new.self) e collecting
  made =
      let journal = journal_by w.journal c.push_reserved.new.self c.new.result e (c.new.ensures ∙ ap (λ t. record { worker = c.args.worker; kind = Begin t }) c.requires.task) c.push_reserved.ensures in
      subst (λ (j : ReservedVecValue EntryValue). LeafEntered w (with j) e collecting) (sym journal) (begins (asks b) taken c.deref.result.now roots left q.heap.slots q.heap.spare)

pub invariant_of-self-2 : goal.invariant_of-self-2
invariant_of-self-2 c = (made c).world

pub returns-clause-others : goal.returns-clause-others
returns-clause-others c = subst (λ (z : SharedValue). OthersFit z (with c c.push_reserved.new.self) c.args.worker) c.self.view_is (made c).others

pub returns-clause-fits : goal.returns-clause-fits
returns-clause-fits c = subst (λ (x : Private). WorkerPartFits (with c c.push_reserved.new.self) c.args.worker x) (sym c.in_ok-to.ensures.begun) (made c).part

pub returns-clause-begun : goal.returns-clause-begun
returns-clause-begun c =
    subst (λ rs. CopyingHasBegun c.args.part.now c.begin_with.new.part rs c.in_ok-to.to) c.deref.ensures.value
    (begins_with (asks (b c)) (taken c) c.deref.result.now (roots c) (left c) (q c) c.in_ok-to.to refl c.in_ok-to.ensures.begun c.in_ok-to.ensures.reserved)
