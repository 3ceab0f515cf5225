use Rattle.shared_tree.proofs.Common.{◌≡◌, false, ℕ, None, length, option_map, slice_get, slice_set, ap, sym, subst, ◌∙◌, Sweep, content_at, TaskSlotsValue, keeping, SharedValue, IsSharedValue, EachPartStillFits, refused, journal_by, SweepsSlot, can_all, has_marking, m, marked, r, rest_is_there, the_view}
use Rattle.entry_calls.proofs.below.heap_marking.{fits_so, has_slot, world_so}
use Rattle.shared_tree.proofs.Asked.{free_inside}
use Rattle.shared_tree.proofs.shared.Shared.enter_sweep.Goals as goal

pub drop_unmarked-requires-clause-slot : goal.drop_unmarked-requires-clause-slot
drop_unmarked-requires-clause-slot c = has_slot _ c.args.worker c.args.t c.args.given c.self.invariant (free_inside (record { worker = c.args.worker; kind = Sweep c.args.t c.args.given }) c.self.view_is c.requires.free)

pub drop_unmarked-requires-clause-marking : goal.drop_unmarked-requires-clause-marking
drop_unmarked-requires-clause-marking c = has_marking _ c.args.worker c.args.t c.args.given c.self.invariant (free_inside (record { worker = c.args.worker; kind = Sweep c.args.t c.args.given }) c.self.view_is c.requires.free)

pub drop_unmarked-requires-clause-can : goal.drop_unmarked-requires-clause-can
drop_unmarked-requires-clause-can c = can_all _ c.args.worker c.args.t c.args.given c.self.invariant (free_inside (record { worker = c.args.worker; kind = Sweep c.args.t c.args.given }) c.self.view_is c.requires.free)

pub forget_kept-requires : goal.forget_kept-requires
forget_kept-requires c = record { block = c.drop_unmarked.ensures.block }

-- The value afterwards: it is a shared value, and all parts fit it.
module _ (c : goal.After-push_reserved) where
  abbrev w : SharedValue
  w = the_view c.self.inside

  abbrev k : ℕ
  k = c.args.worker

  abbrev t : ℕ
  t = c.args.t

  abbrev n : ℕ
  n = c.args.given

  abbrev old : TaskSlotsValue
  old = c.drop_unmarked.new.heaps.task_slots

  abbrev new : TaskSlotsValue
  new = c.forget_kept.new.task_slots

  free : refused w (record { worker = k; kind = Sweep t n }) ≡ None
  free = free_inside (record { worker = c.args.worker; kind = Sweep c.args.t c.args.given }) c.self.view_is c.requires.free

  marks : new.marks ≡ slice_set w.marks t None
  marks = ap (λ (h : TaskSlotsValue). h.marks) c.forget_kept.ensures.task_slots ∙ ap (λ (h : TaskSlotsValue). h.marks) c.drop_unmarked.ensures.task_slots

  sets : old.sets ≡ w.sets
  sets = ap (λ (h : TaskSlotsValue). h.sets) c.drop_unmarked.ensures.task_slots

  swept : SweepsSlot w.rests new.rests w.pool c.drop_unmarked.new.heaps.pool t (r w k t n c.self.invariant free) (m w k t n c.self.invariant free)
  swept =
      subst (λ hs. SweepsSlot w.rests hs w.pool c.drop_unmarked.new.heaps.pool t (r w k t n c.self.invariant free) (m w k t n c.self.invariant free)) (sym (ap (λ (h : TaskSlotsValue). h.rests) c.forget_kept.ensures.task_slots))
      (c.drop_unmarked.ensures.swept (r w k t n c.self.invariant free) (m w k t n c.self.invariant free) (rest_is_there w k t n c.self.invariant free) (marked w k t n c.self.invariant free))

  others : (u : ℕ) → (u ≡ t → ⊥) → slice_get new.sets u ≡ slice_get w.sets u
  others u ne = c.forget_kept.ensures.others u ne ∙ ap (λ xs. slice_get xs u) sets

  abbrev with : SharedValue
  with = record w { pool = c.drop_unmarked.new.heaps.pool; rests = new.rests; sets = new.sets; marks = new.marks; journal = c.push_reserved.new.self }

  both : IsSharedValue with × EachPartStillFits w with
  both =
      let many : length new.sets ≡ length w.sets = c.forget_kept.ensures.many ∙ ap length sets in
      let none = c.forget_kept.ensures.none ∙ ap (λ xs. option_map (keeping false) (content_at xs t)) sets in
      let journal = journal_by w.journal _ _ (record { worker = k; kind = Sweep t n }) c.new.ensures c.push_reserved.ensures in (
        world_so w k t n c.self.invariant free new.rests c.drop_unmarked.new.heaps.pool swept new.marks marks new.sets many none others c.push_reserved.new.self journal,
        fits_so w k t n c.self.invariant free new.rests c.drop_unmarked.new.heaps.pool swept new.marks marks new.sets many none others c.push_reserved.new.self journal,
      )

pub invariant_of-self : goal.invariant_of-self
invariant_of-self c = (both c).0

pub returns-clause-fits : goal.returns-clause-fits
returns-clause-fits c = subst (λ (z : SharedValue). EachPartStillFits z (with c)) c.self.view_is (both c).1
