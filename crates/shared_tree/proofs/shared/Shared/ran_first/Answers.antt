use Rattle.shared_tree.proofs.Common.{refl, ◌≡◌, ℕ, ◌+◌, ◌-◌, None, Some, [], length, slice_set, ap, sym, subst, ◌∙◌, ◌<◌, Ended, state_of, with_state, sibling, Private, ParkedTask, TaskSlotsValue, IsSharedValue, SharedValue, four_changed, ended_rest, alone_small, EndsChild, alone_ends, asked, asked_alone, asks_end, the_view, arith, ◌≤◌, private_limit, ReservedVecValue, EntryValue, HoldsNone, AsksEnd, alone_end_world as alone_world}
use Rattle.entry_calls.proofs.below.step_commit.{has_slot, has_node}
use Rattle.shared_tree.proofs.Joints.{holds_none, no_memory_left}
use Rattle.shared_tree.proofs.StepsEntered.{along, entered}
use Rattle.shared_tree.proofs.shared.Shared.ran_first.Goals as goal

pub make_block-requires : goal.make_block-requires
make_block-requires c =
    record { made = subst (λ t. t < length (the_view c.self.inside).rests) (sym c.task-task.ensures) (has_slot (asked (asks_end c.self.view_is c.self.invariant c.requires.fits c.requires.ends c.requires.free))) }

pub overflow_add-self-2 : goal.overflow_add-self-2
overflow_add-self-2 c =
    let asks = asks_end c.self.view_is c.self.invariant c.requires.fits c.requires.ends c.requires.free in
    let small = alone_small (asked_alone asks) in
    let same : c.get-held.result.now.fresh ≡ c.args.part.fresh = ap (λ (r : Private). r.fresh) c.get-held.ensures in
    omega (arith, small.0, small.1, same)

pub alone_of-requires-clause-few : goal.alone_of-requires-clause-few
alone_of-requires-clause-few c =
    let asks = asks_end c.self.view_is c.self.invariant c.requires.fits c.requires.ends c.requires.free in
    subst (λ (r : Private). r.fresh ≤ private_limit) (sym c.get-held.ensures) (alone_small (asked_alone asks)).1

pub set_state-requires : goal.set_state-requires
set_state-requires c =
    subst (λ t. t < length (the_view c.self.inside).tree) (sym c.task-task.ensures) (has_node (asked (asks_end c.self.view_is c.self.invariant c.requires.fits c.requires.ends c.requires.free)))

pub invariant_of-self : goal.invariant_of-self
invariant_of-self c =
    subst (λ (h : TaskSlotsValue). IsSharedValue (record (the_view c.self.inside) { rests = h.rests; sets = h.sets; marks = h.marks })) (sym c.make_block.ensures.task_slots) c.self.invariant

-- The value afterwards: it is a shared value, and the end of a child entered it.
module _ (c : goal.After-put_rest) where
  abbrev w : SharedValue
  w = the_view c.self.inside

  abbrev p : Private
  p = c.args.part

  abbrev k : ℕ
  k = c.args.worker

  abbrev with : ℕ → TaskSlotsValue → ReservedVecValue EntryValue → SharedValue
  with n h j = record w { steps = n; tree = c.set_state.new.self; rests = h.rests; sets = h.sets; marks = h.marks; tasks_out = c.set.new.self; journal = j }

  abbrev after : SharedValue
  after = with (w.steps + (c.get-held.result.now.fresh + 1)) c.put_rest.new.self c.push_reserved.new.self

  asks : AsksEnd w k p
  asks = asks_end c.self.view_is c.self.invariant c.requires.fits c.requires.ends c.requires.free

  both : IsSharedValue after × EndsChild w after k p None
  both =
      let no : state_of w.tree (sibling p.task) ≡ Some Ended → ⊥ = λ e. c.requires.alone (subst (λ (z : SharedValue). state_of z.tree (sibling p.task) ≡ Some Ended) c.self.view_is e) in
      let hm : TaskSlotsValue = record c.self.inside.heaps.task_slots { rests = slice_set w.rests p.task (Some (ended_rest p)); blocks = c.make_block.new.self.blocks } in
      let put : c.put_rest.new.self ≡ hm =
      subst (λ t. c.put_rest.new.self ≡ record c.make_block.new.self { rests = slice_set c.make_block.new.self.rests t (Some c.at_end.result) }) c.task-task.ensures c.put_rest.ensures
      ∙ (ap (λ (h : TaskSlotsValue). record h { rests = slice_set h.rests p.task (Some c.at_end.result) }) c.make_block.ensures.task_slots
      ∙ ap (λ (r : ParkedTask). record hm { rests = slice_set w.rests p.task (Some r) }) c.at_end.ensures) in
      let j : ReservedVecValue EntryValue = record { items = []; room = w.journal.room - 1 } in
      let same = four_changed (record w { steps = w.steps + (p.fresh + 1) }) (with_state w.tree p.task Ended) _ (slice_set w.rests p.task (Some (ended_rest p))) _ (slice_set w.tasks_out k None) _ (entered w k p) _
      (subst (λ t. c.set_state.new.self ≡ with_state w.tree t Ended) c.task-task.ensures c.set_state.ensures) refl c.set.ensures refl in
      along w k p c.get-held.result.now c.get-held.ensures _ _ c.alone_of.ensures c.push_reserved.ensures (λ n j. IsSharedValue (with n c.put_rest.new.self j) × EndsChild w (with n c.put_rest.new.self j) k p None)
      (subst (λ (h : TaskSlotsValue). IsSharedValue (with (w.steps + (p.fresh + 1)) h (entered w k p)) × EndsChild w (with (w.steps + (p.fresh + 1)) h (entered w k p)) k p None) (sym put)
      (subst (λ (z : SharedValue). IsSharedValue z × EndsChild w z k p None) (sym same) (alone_world asks no j, alone_ends asks no j)))

pub invariant_of-self-2 : goal.invariant_of-self-2
invariant_of-self-2 c = (both c).0

pub returns : goal.returns
returns c = record {
  refused = refl;
  same = tt;
  still = tt;
  back = tt;
  answered = subst (λ (z : SharedValue). EndsChild z (after c) c.args.worker c.args.part None × HoldsNone (after c) c.args.worker) c.self.view_is
      ((both c).1, holds_none (w c) (after c) (k c) (p c) (asks c).I (both c).0 (asks c).free c.set.ensures);
}

pub returns-then-is_err : goal.returns-then-is_err
returns-then-is_err c =
    no_memory_left c.args.self.now _ c.args.worker c.args.part
    (ap (λ (h : TaskSlotsValue). record (the_view c.self.inside) { rests = h.rests; sets = h.sets; marks = h.marks }) c.make_block.ensures.task_slots ∙ c.self.view_is)

pub push_reserved-requires : goal.push_reserved-requires
push_reserved-requires c = subst (λ (z : SharedValue). 0 < z.journal.room) (sym c.self.view_is) c.requires.room
