use Rattle.shared_tree.proofs.Common.{◌≡◌, ℕ, ◌-◌, ◌<◌, ◌++◌, ◌∷◌, [], All, List, Option, Some, None, min, is_some, option_copied, slice_get, slice_set, ap, sym, subst, ◌∙◌, ReservedVecValue, EntryValue, More, heap_of, left_in, Addr, HasObjectAt, IsAllMarked, IsMarking, IsOf, MarkingValue, ParkedTask, ChunkValue, Fork, IsSince, kept, TaskSlotsValue, kept_of, refused, EachPartStillFits, SharedValue, accounts, marks_at, rest_at, value_of, IsSharedValue, journal_by, Further, kept_noted, put_back, some_count, some_enters, further, marks_within, never_gone, never_unmarked, the_view, AsksMarked, some_asks, rest, waits}
use Rattle.shared_tree.proofs.Asked.{free_inside}
use Rattle.shared_tree.proofs.shared.Shared.enter_marking.Goals as goal
use Rattle.shared_tree.proofs.shared.Shared.enter_marking.Goals.{After-get_mut, After-push_reserved}

-- what is asked: the task waits, and its heap is being marked
asked : {w old : SharedValue} (k t n : ℕ) → w ≡ old → IsSharedValue w → refused old (record { worker = k; kind = More t n }) ≡ None → AsksMarked w t
asked k t n same I free = some_asks _ I k t n (free_inside (record { worker = k; kind = More t n }) same free)

pub take_marking-requires : goal.take_marking-requires
take_marking-requires c = record { there = ap is_some (rest (waits (asked c.args.worker c.args.t c.args.n c.self.view_is c.self.invariant c.requires.free))).1 }

pub unreachable-requires : goal.unreachable-requires
unreachable-requires c = never_unmarked (asked c.args.worker c.args.t c.args.n c.self.view_is c.self.invariant c.requires.free) (sym c.take_marking.ensures.marking ∙ c.in_default.is)

pub unreachable-requires-in_default-rest : goal.unreachable-requires-in_default-rest
unreachable-requires-in_default-rest c =
    never_gone (waits (asked c.args.worker c.args.t c.args.n c.self.view_is c.self.invariant c.requires.free)) (ap (λ (h : TaskSlotsValue). rest_at h.rests c.args.t) (sym c.take_marking.ensures.task_slots) ∙ (sym c.rest.ensures ∙ ap option_copied c.in_default-rest.is))

pub put_marking-requires : goal.put_marking-requires
put_marking-requires c = record { there = ap is_some (sym c.rest.ensures ∙ ap option_copied c.in-Some-rest.is) }

-- What is known of the heap and its marking before more is marked.
module _ (c : After-get_mut) where
  abbrev w : SharedValue
  w = the_view c.self.inside

  abbrev t : ℕ
  t = c.args.t

  abbrev heap : ParkedTask
  heap = c.in-Some-rest.rest.now

  abbrev marking : MarkingValue
  marking = c.get_mut.result.now

  there : rest_at w.rests t ≡ Some heap
  there = ap (λ (h : TaskSlotsValue). rest_at h.rests t) (sym c.take_marking.ensures.task_slots) ∙ (sym c.rest.ensures ∙ ap option_copied c.in-Some-rest.is)

  at : marks_at w.marks t ≡ Some marking
  at = sym c.take_marking.ensures.marking ∙ (c.in-Some.is ∙ ap Some (sym c.get_mut.ensures.value))

  same : c.kept-kept.result.now ≡ kept (value_of w) t
  same = c.kept-kept.ensures ∙ (ap (λ (h : TaskSlotsValue). kept_of (slice_get h.sets t)) c.take_marking.ensures.task_slots ∙ kept_noted (slice_get w.sets t))

  F : Further w t heap marking
  F = further (asked c.args.worker c.args.t c.args.n c.self.view_is c.self.invariant c.requires.free) heap marking there at

pub mark_objects-count-requires-clause-closed : goal.mark_objects-count-requires-clause-closed
mark_objects-count-requires-clause-closed c = (F c).closed

pub mark_objects-count-requires-clause-kept : goal.mark_objects-count-requires-clause-kept
mark_objects-count-requires-clause-kept c = subst (λ (xs : List Addr). All (HasObjectAt (heap c).heap.chunks) xs) (sym (same c)) (F c).kept

pub mark_objects-count-requires-clause-own : goal.mark_objects-count-requires-clause-own
mark_objects-count-requires-clause-own c = subst (λ (xs : List Addr). IsOf (heap c).heap.chunks xs (marking c)) (sym (same c)) (F c).own

-- The value afterwards: it is a shared value, all parts fit it, and the count is right.
module _ (c : After-push_reserved) where
  abbrev b : After-get_mut
  b = (goal.at.invariant_of-self c).After-get_mut

  abbrev old : SharedValue
  old = the_view c.self.inside

  abbrev k : ℕ
  k = c.args.worker

  abbrev n : ℕ
  n = c.args.n

  abbrev task : ℕ
  task = c.args.t

  abbrev held : List ChunkValue
  held = c.in-Some-rest.rest.now.heap.chunks

  abbrev roots : List Addr
  roots = kept (value_of old) task

  abbrev first : MarkingValue
  first = c.get_mut.result.now

  abbrev last : MarkingValue
  last = c.mark_objects-count.new.self

  abbrev e : EntryValue
  e = record { worker = k; kind = More task n }

  free : refused old e ≡ None
  free = free_inside e c.self.view_is c.requires.free

  own : IsOf held roots last
  own = subst (λ (xs : List Addr). IsOf held xs last) (same b) c.mark_objects-count.ensures.own

  goes : (f : Fork) → IsSince f roots held → IsMarking f roots first → IsMarking f roots last
  goes = subst (λ (xs : List Addr). (f : Fork) → IsSince f xs held → IsMarking f xs first → IsMarking f xs last) (same b) c.mark_objects-count.ensures.marking

  left : (f : Fork) → IsSince f roots held → IsMarking f roots first → c.mark_objects-count.result < n → IsAllMarked f roots last
  left = subst (λ (xs : List Addr). (f : Fork) → IsSince f xs held → IsMarking f xs first → c.mark_objects-count.result < n → IsAllMarked f xs last) (same b) c.mark_objects-count.ensures.left

  count : c.mark_objects-count.result ≡ min n (left_in (heap_of (accounts old) task))
  count = some_count old c.self.invariant k task n free c.in-Some-rest.rest.now first last c.mark_objects-count.result (there b) (at b) own c.mark_objects-count.ensures.count c.mark_objects-count.ensures.most goes left

  abbrev with : TaskSlotsValue → ReservedVecValue EntryValue → SharedValue
  with h j = record old { rests = h.rests; sets = h.sets; marks = h.marks; journal = j }

  both : IsSharedValue (with c.put_marking.new.self c.push_reserved.new.self) × EachPartStillFits old (with c.put_marking.new.self c.push_reserved.new.self)
  both =
      let journal : c.push_reserved.new.self ≡ record { items = old.journal.items ++ e ∷ []; room = old.journal.room - 1 } = journal_by old.journal _ _ e c.new.ensures c.push_reserved.ensures in
      let put = put_back old.marks task None last (marks_within (some_asks old c.self.invariant k task n free)) in
      let ms : List (Option MarkingValue) = slice_set (slice_set old.marks task None) task (Some last) in
      let whole : c.put_marking.new.self ≡ record c.self.inside.heaps.task_slots { marks = ms } =
      c.put_marking.ensures.task_slots ∙ ap (λ (h : TaskSlotsValue). let z : TaskSlotsValue = record h { marks = slice_set h.marks task (Some last) } in z) c.take_marking.ensures.task_slots in
      let all = some_enters old c.self.invariant k task n free c.in-Some-rest.rest.now first last c.mark_objects-count.result (there b) (at b) own c.mark_objects-count.ensures.count c.mark_objects-count.ensures.most goes left ms (old.journal.room - 1) put.0 put.1 in
      subst (λ (j : ReservedVecValue EntryValue). IsSharedValue (with c.put_marking.new.self j) × EachPartStillFits old (with c.put_marking.new.self j)) (sym journal)
      (subst (λ (h : TaskSlotsValue). IsSharedValue (with h (record { items = old.journal.items ++ e ∷ []; room = old.journal.room - 1 })) × EachPartStillFits old (with h (record { items = old.journal.items ++ e ∷ []; room = old.journal.room - 1 }))) (sym whole) all)

pub invariant_of-self : goal.invariant_of-self
invariant_of-self c = (both c).0

pub returns-clause-count : goal.returns-clause-count
returns-clause-count c = count c ∙ ap (λ (z : SharedValue). min c.args.n (left_in (heap_of (accounts z) c.args.t))) c.self.view_is

pub returns-clause-fits : goal.returns-clause-fits
returns-clause-fits c = subst (λ (z : SharedValue). EachPartStillFits z (with c c.put_marking.new.self c.push_reserved.new.self)) c.self.view_is (both c).1
