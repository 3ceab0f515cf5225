use Rattle.shared_tree.proofs.Common.{mark_enters, rest, journal_by, got_other, SharedValue, accounts, value_of, IsSharedValue, EachPartStillFits, MarkingValue, ReservedVecValue, CanGoOnMarking, heap_of, EntryValue, Mark, TaskSlotsValue, the_view, ◌≡◌, sym, subst, ℕ, Option, List, ◌∙◌, Some, slice_set, is_some, ap, ◌-◌, ◌++◌, [], ◌∷◌, ◌<◌, option_flatten, mark_asks}
use Rattle.entry_calls.specs.below.task_slots.{marks_at}
use Rattle.shared_tree.proofs.Asked.{free_inside}
use Rattle.shared_tree.proofs.shared.Shared.enter_mark.Goals as goal

pub put_marking-requires : goal.put_marking-requires
put_marking-requires c =
    record { there = ap is_some (rest (mark_asks _ c.self.invariant c.args.worker c.args.t (free_inside (record { worker = c.args.worker; kind = Mark c.args.t }) c.self.view_is c.requires.free))).1 }

-- The value afterwards: it is a shared value, and all parts fit it.
module _ (c : goal.After-push_reserved) where
  abbrev w : SharedValue
  w = the_view c.self.inside

  abbrev t : ℕ
  t = c.args.t

  abbrev e : EntryValue
  e = record { worker = c.args.worker; kind = Mark t }

  abbrev entered : ReservedVecValue EntryValue
  entered = record { items = w.journal.items ++ e ∷ []; room = w.journal.room - 1 }

  abbrev with : TaskSlotsValue → ReservedVecValue EntryValue → SharedValue
  with h j = record w { rests = h.rests; sets = h.sets; marks = h.marks; journal = j }

  both : IsSharedValue (with c.put_marking.new.self c.push_reserved.new.self) × EachPartStillFits w (with c.put_marking.new.self c.push_reserved.new.self)
  both =
      let goes : CanGoOnMarking (value_of w) t (heap_of (accounts w) t).snapshot c.args.marking = subst (λ (z : SharedValue). CanGoOnMarking (value_of z) t (heap_of (accounts z) t).snapshot c.args.marking) (sym c.self.view_is) c.requires.goes in
      let ms : List (Option MarkingValue) = slice_set w.marks t (Some c.in_ok-marking.marking) in
      let at : marks_at ms t ≡ Some c.args.marking = ap (λ (h : TaskSlotsValue). marks_at h.marks t) (sym c.put_marking.ensures.task_slots) ∙ (c.put_marking.ensures.marking ∙ ap Some c.in_ok-marking.ensures.ok) in
      let others = λ (u : ℕ) (ne : u ≡ t → ⊥). ap option_flatten (got_other w.marks t u (Some c.in_ok-marking.marking) ne) in
      subst (λ (j : ReservedVecValue EntryValue). IsSharedValue (with c.put_marking.new.self j) × EachPartStillFits w (with c.put_marking.new.self j)) (sym (journal_by w.journal _ _ e c.new-2.ensures c.push_reserved.ensures))
      (subst (λ (h : TaskSlotsValue). IsSharedValue (with h entered) × EachPartStillFits w (with h entered)) (sym c.put_marking.ensures.task_slots)
      (mark_enters w c.self.invariant c.args.worker t c.args.marking ms (w.journal.room - 1) at others (free_inside e c.self.view_is c.requires.free) c.requires.none goes))

pub invariant_of-self : goal.invariant_of-self
invariant_of-self c = (both c).0

pub returns-clause-fits : goal.returns-clause-fits
returns-clause-fits c = subst (λ (z : SharedValue). EachPartStillFits z (with c c.put_marking.new.self c.push_reserved.new.self)) c.self.view_is (both c).1

pub push_reserved-requires : goal.push_reserved-requires
push_reserved-requires c = subst (λ (z : SharedValue). 0 < z.journal.room) (sym c.self.view_is) c.requires.room
