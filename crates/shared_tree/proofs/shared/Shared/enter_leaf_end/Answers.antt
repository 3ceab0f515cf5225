use Rattle.shared_tree.proofs.Common.{AsksLeafEnd, asks_leaf_end, are_fields, back_in_use, has_slot, leaf_ended, LeafEntered, journal_by, all_from, end_entry, without_collection, PoolValue, slot_at, Moved, SharedValue, OthersFit, Enters, heaps_of, sources_of, AreGiven, ChunkValue, redirected, AreAscending, ArePlaces, EntryValue, Private, Heaps, Resting, resting_references, with_ref_in, with_resting, the_view, ◌≡◌, sym, subst, Option, ◌∙◌, true, slice_get, is_some, refl, ap, ◌<◌, All, fold, IsSome}
use Rattle.shared_tree.proofs.shared.Shared.enter_leaf_end.Goals as goal
use Rattle.shared_tree.proofs.shared.Shared.enter_leaf_end.Goals.{After-lead}

some_is : {A : Type 0} (o : Option A) → is_some o ≡ true → IsSome o
some_is o e = e

-- the heaps after the fields are updated
abbrev led_heaps : SharedValue → Private → Moved → Resting
led_heaps w p m = fold (redirected resting_references with_ref_in m.moved.items) (heaps_of w) (sources_of (slice_get w.sets p.task))

pub lead-requires-clause-made : goal.lead-requires-clause-made
lead-requires-clause-made c = has_slot (asks_leaf_end c.self.view_is c.self.invariant c.requires.fits c.requires.free)

pub lead-requires-clause-fields : goal.lead-requires-clause-fields
lead-requires-clause-fields c = are_fields (asks_leaf_end c.self.view_is c.self.invariant c.requires.fits c.requires.free)

-- What is asked, and the heaps once the fields are updated.
module _ (c : After-lead) where
  abbrev w : SharedValue
  w = the_view c.self.inside

  abbrev p : Private
  p = c.args.part.now

  abbrev m : Moved
  m = c.args.moved

  asks : AsksLeafEnd w c.args.worker p m
  asks = asks_leaf_end c.self.view_is c.self.invariant c.requires.fits c.requires.free

  led : c.lead.new.heaps ≡ with_resting c.self.inside.heaps (led_heaps w p m)
  led = c.lead.ensures.led ∙ ap (λ ms. with_resting c.self.inside.heaps (fold (redirected resting_references with_ref_in ms) (heaps_of w) (sources_of (slice_get w.sets p.task)))) c.deref.ensures.value

  pool : c.lead.new.heaps.pool ≡ w.pool
  pool = ap (λ (h : Heaps). h.pool) led

pub give_all-requires-clause-in_use : goal.give_all-requires-clause-in_use
give_all-requires-clause-in_use c =
    let a = (goal.at.give_all-requires-clause-in_use c).After-lead in
    subst (λ (z : PoolValue). All (λ (b : ChunkValue). IsSome (slot_at z b.number)) (m a).back.items) (sym (pool a)) (all_from (λ (b : ChunkValue). IsSome (slot_at (w a).pool b.number)) (m a).back.items (λ b i. some_is (slot_at (w a).pool b.number) (back_in_use (asks a) b i)))

-- The value afterwards: the entry led to it.
module _ (c : goal.After-drop-moved) where
  abbrev b : After-lead
  b = (goal.at.invariant_of-self c).After-lead

  abbrev old : SharedValue
  old = the_view c.self.inside

  abbrev e : EntryValue
  e = end_entry c.args.worker c.args.part.now c.args.moved

  abbrev with : Heaps → SharedValue
  with h = record old { pool = c.give_all.new.pool; rests = h.task_slots.rests; sets = h.task_slots.sets; marks = h.task_slots.marks; journal = c.push_reserved.new.self }

  made : LeafEntered old (with c.lead.new.heaps) e (without_collection c.args.part.now)
  made =
      let given : AreGiven old.pool c.give_all.new.pool c.args.moved.back.items = subst (λ (z : PoolValue). AreGiven z c.give_all.new.pool c.args.moved.back.items) (pool b) c.give_all.ensures in
      subst (λ (h : Heaps). LeafEntered old (with h) e (without_collection c.args.part.now)) (sym (led b)) (leaf_ended (asks b) refl c.lead.ensures.once given (journal_by old.journal _ _ e c.new.ensures c.push_reserved.ensures))

pub invariant_of-self : goal.invariant_of-self
invariant_of-self c = (made c).world

pub returns-clause-fits : goal.returns-clause-fits
returns-clause-fits c = (made c).part

pub returns-clause-others : goal.returns-clause-others
returns-clause-others c = subst (λ (z : SharedValue). OthersFit z (with c c.lead.new.heaps) c.args.worker) c.self.view_is (made c).others

pub returns-clause-enters : goal.returns-clause-enters
returns-clause-enters c = subst (λ (z : SharedValue). Enters z (with c c.lead.new.heaps) (e c)) c.self.view_is (made c).enters

pub push_reserved-requires : goal.push_reserved-requires
push_reserved-requires c = subst (λ (z : SharedValue). 0 < z.journal.room) (sym c.self.view_is) c.requires.room

pub lead-requires-clause-order : goal.lead-requires-clause-order
lead-requires-clause-order c = subst AreAscending (sym c.deref.ensures.value) c.requires.fits.order

pub lead-requires-clause-places : goal.lead-requires-clause-places
lead-requires-clause-places c = subst ArePlaces (sym c.deref.ensures.value) c.requires.fits.places
