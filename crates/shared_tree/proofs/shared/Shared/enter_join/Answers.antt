use Rattle.shared_tree.proofs.Common.{◌≡◌, ◌<◌, ℕ, ◌+◌, ◌-◌, arith, Some, None, List, [], length, length-set, slice_get, slice_set, refl, ap, sym, subst, ◌∙◌, IsSome, ReservedVecValue, if_none, EntryValue, PoolValue, Ended, TaskNode, parent_of, state_of, with_state, sibling, EndedChild, joined_nodes, Private, TaskSlotsValue, SharedValue, rest_at, IsSharedValue, four_changed, alone_small, EndsChild, CanJoin, HasPlaces, parent_side, AsksEnd, asked_alone, asks_end, own_made, parent_low, few_tasks, other_made, left_by, Put, Taken, both_made, can_join, the_view, ◌≤◌, private_limit}
use Rattle.entry_calls.proofs.below.fork_join_commit.JoinEntries as entry
use Rattle.shared_tree.proofs.StepsEntered.{along, entered}
use Rattle.shared_tree.proofs.shared.Shared.enter_join.Goals as goal
use Rattle.shared_tree.proofs.shared.Shared.enter_join.Goals.{After-in_order-children, After-put_set, After-self}

-- What the end asks: the sibling has ended, and the parent is known.
module _ (c : After-self) where
  abbrev w : SharedValue
  w = the_view c.self.inside

  abbrev p : Private
  p = c.args.part

  asks : AsksEnd w c.args.worker p
  asks = asks_end c.self.view_is c.self.invariant c.requires.fits c.requires.ends c.requires.free

  ended : state_of w.tree (sibling p.task) ≡ Some Ended
  ended = subst (λ (z : SharedValue). state_of z.tree (sibling p.task) ≡ Some Ended) (sym c.self.view_is) c.requires.ended

  par : parent_of w.tree p.task ≡ Some c.args.parent
  par = subst (λ (z : SharedValue). parent_of z.tree p.task ≡ Some c.args.parent) (sym c.self.view_is) c.requires.parent

pub sibling_of-other-requires-clause-child : goal.sibling_of-other-requires-clause-child
sibling_of-other-requires-clause-child c =
    let low = parent_low (asks (goal.at.sibling_of-other-requires-clause-child c).After-self) in
    let is = c.task-task.ensures in
    omega (arith, low, is)

pub sibling_of-other-requires-clause-few : goal.sibling_of-other-requires-clause-few
sibling_of-other-requires-clause-few c =
    let b = (goal.at.sibling_of-other-requires-clause-few c).After-self in
    let few = few_tasks (w b) c.self.invariant in
    let made = own_made (asks b) in
    let is = c.task-task.ensures in
    omega (arith, few, made, is)

pub overflow_add-self-2 : goal.overflow_add-self-2
overflow_add-self-2 c =
    let small = alone_small (asked_alone (asks (goal.at.overflow_add-self-2 c).After-self)) in
    let same : c.get-held.result.now.fresh ≡ c.args.part.fresh = ap (λ (r : Private). r.fresh) c.get-held.ensures in
    omega (arith, small.0, small.1, same)

pub alone_of-requires-clause-few : goal.alone_of-requires-clause-few
alone_of-requires-clause-few c =
    subst (λ (r : Private). r.fresh ≤ private_limit) (sym c.get-held.ensures) (alone_small (asked_alone (asks (goal.at.alone_of-requires-clause-few c).After-self))).1

pub set_state-requires : goal.set_state-requires
set_state-requires c = subst (λ t. t < length (the_view c.self.inside).tree) (sym c.task-task.ensures) (own_made (asks (goal.at.set_state-requires c).After-self))

pub leave-requires : goal.leave-requires
leave-requires c = record { made = subst (λ t. t < length c.self.inside.heaps.task_slots.rests) (sym c.task-task.ensures) (subst (λ n. c.args.part.task < n) (sym c.self.invariant.made) (own_made (asks (goal.at.leave-requires c).After-self))) }

pub leave-requires-2 : goal.leave-requires-2
leave-requires-2 c =
    let b = (goal.at.leave-requires-2 c).After-self in
    let made = other_made (asks b) (ended b) in
    let o = c.sibling_of-other.ensures ∙ ap sibling c.task-task.ensures in
    let n = c.self.invariant.made in
    let m : length c.leave.new.self.rests ≡ length (w b).rests = ap (λ (z : TaskSlotsValue). length z.rests) c.leave.ensures.task_slots ∙ length-set (w b).rests c.task-task.result None in
    record { made = omega (arith, made, o, n, m) }

pub take_rest-above-requires : goal.take_rest-above-requires
take_rest-above-requires c =
    let b = (goal.at.take_rest-above-requires c).After-self in
    let two : c.leave-2.new.self ≡ left_by (left_by c.self.inside.heaps.task_slots (p b).task) c.sibling_of-other.result = c.leave-2.ensures.task_slots ∙ ap (λ (z : TaskSlotsValue). left_by z c.sibling_of-other.result) (c.leave.ensures.task_slots ∙ ap (left_by c.self.inside.heaps.task_slots) c.task-task.ensures) in
    record { there = subst (λ (z : TaskSlotsValue). IsSome (rest_at z.rests c.args.parent)) (sym two) (entry.parent_stays (asks b) (ended b) c.args.parent c.sibling_of-other.result (par b) (c.sibling_of-other.ensures ∙ ap sibling c.task-task.ensures)) }

pub take_set-requires : goal.take_set-requires
take_set-requires c = record { block = c.take_rest-above.ensures.block }

-- What is known before the children join: all that the calls took is that of the children and of their parent.
module _ (c : After-in_order-children) where
  taken : Taken (the_view c.self.inside) c.args.part c.args.parent c.sibling_of-other.result c.self.inside.heaps.task_slots c.leave.new.self c.leave-2.new.self c.take_rest-above.new.self c.take_set.new.self
      c.leave.result c.leave-2.result c.take_rest-above.result c.take_set.result c.into_parts-noted.result.0 c.own_child-own.result c.other_child-beside.result c.in_order-children.result.0 c.in_order-children.result.1
  taken = record {
    rests_are = refl;
    sets_are = refl;
    marks_are = refl;
    task_slots = record {
      own_set = subst (λ t. slice_get c.self.inside.heaps.task_slots.sets t ≡ Some c.leave.result.set) c.task-task.ensures c.leave.ensures.set;
      own_left = c.leave.ensures.task_slots ∙ ap (left_by c.self.inside.heaps.task_slots) c.task-task.ensures;
      beside_rest = c.leave-2.ensures.rest;
      beside_set = c.leave-2.ensures.set;
      beside_left = c.leave-2.ensures.task_slots;
      above_is = c.take_rest-above.ensures.rest;
      rest_taken = c.take_rest-above.ensures.task_slots;
      set_is = c.take_set.ensures.set;
      set_taken = c.take_set.ensures.task_slots;
    };
    notes_are = c.into_parts-noted.ensures.remembered;
    own_is = c.own_child-own.ensures;
    other_is = c.other_child-beside.ensures;
    left_is = c.in_order-children.ensures.left;
    right_is = c.in_order-children.ensures.right;
  }

  places : HasPlaces (the_view c.self.inside) c.args.part c.args.parent
  places = subst (λ (z : SharedValue). HasPlaces z c.args.part c.args.parent) (sym c.self.view_is) c.requires.places

pub join_children-rest-requires-clause-work : goal.join_children-rest-requires-clause-work
join_children-rest-requires-clause-work c =
    let b = (goal.at.join_children-rest-requires-clause-work c).After-self in
    let d = (goal.at.join_children-rest-requires-clause-work c).After-in_order-children in
    (can_join (asks b) (ended b) c.args.parent c.sibling_of-other.result (par b) (c.sibling_of-other.ensures ∙ ap sibling c.task-task.ensures) _ _ _ _ _ _ _ _ _ _ _ _ _ _ (taken d) (places d)).0

pub join_children-rest-requires-clause-can : goal.join_children-rest-requires-clause-can
join_children-rest-requires-clause-can c =
    let b = (goal.at.join_children-rest-requires-clause-can c).After-self in
    let d = (goal.at.join_children-rest-requires-clause-can c).After-in_order-children in
    subst (λ (ns : List TaskNode). CanJoin ns (the_view c.self.inside).pool (parent_side c.args.parent c.take_rest-above.result c.into_parts-noted.result.0) c.in_order-children.result.0 c.in_order-children.result.1) (sym (c.set_state.ensures ∙ ap (λ t. with_state (the_view c.self.inside).tree t Ended) c.task-task.ensures))
    (can_join (asks b) (ended b) c.args.parent c.sibling_of-other.result (par b) (c.sibling_of-other.ensures ∙ ap sibling c.task-task.ensures) _ _ _ _ _ _ _ _ _ _ _ _ _ _ (taken d) (places d)).1

pub remembering-set-requires : goal.remembering-set-requires
remembering-set-requires c =
    if_none c.into_parts-noted.result.1 _ _ c.join_children-rest.ensures.none c.into_parts-noted.ensures.bare_noted

pub put_rest-requires : goal.put_rest-requires
put_rest-requires c = record { block = ap (λ (z : TaskSlotsValue). slice_get z.blocks c.args.parent) c.take_set.ensures.task_slots ∙ c.take_rest-above.ensures.block }

pub put_set-requires : goal.put_set-requires
put_set-requires c =
    record { block = ap (λ (z : TaskSlotsValue). slice_get z.blocks c.args.parent) c.put_rest.ensures ∙ (ap (λ (z : TaskSlotsValue). slice_get z.blocks c.args.parent) c.take_set.ensures.task_slots ∙ c.take_rest-above.ensures.block) }

-- The value afterwards, by what is put back: it is a shared value, and the end of a child entered it.
module _ (c : After-put_set) where
  abbrev v : SharedValue
  v = the_view c.self.inside

  abbrev k : ℕ
  k = c.args.worker

  abbrev part : Private
  part = c.args.part

  abbrev left : EndedChild
  left = c.in_order-children.result.0

  abbrev right : EndedChild
  right = c.in_order-children.result.1

  abbrev pool : PoolValue
  pool = c.join_children-rest.new.pool

  abbrev h6 : TaskSlotsValue
  h6 = c.put_set.new.self

  put : Put v c.args.parent c.take_set.new.self c.put_rest.new.self h6 c.into_parts-noted.result.0 c.take_rest-above.result left right pool c.join_children-rest.result.0 c.join_children-rest.result.1 c.remembering-set.result
  put = record {
    pool_is = c.join_children-rest.ensures.pool;
    side = c.join_children-rest.ensures.side;
    rest_is = c.join_children-rest.ensures.rest;
    task_slots = record { rest_put = c.put_rest.ensures; set_put = c.put_set.ensures };
    put_is = c.remembering-set.ensures;
  }

  -- the value but for its steps and its journal
  abbrev with : ℕ → ReservedVecValue EntryValue → SharedValue
  with n j = record v { pool = pool; sets = h6.sets; marks = h6.marks; steps = n; tree = c.join_children-rest.new.tree; rests = h6.rests; tasks_out = c.set.new.self; journal = j }

  abbrev after : SharedValue
  after = with (v.steps + (c.get-held.result.now.fresh + 1)) c.push_reserved.new.self

  both : IsSharedValue after × EndsChild v after k part (Some c.args.parent)
  both =
      let b = (goal.at.invariant_of-self c).After-self in
      let j : ReservedVecValue EntryValue = record { items = []; room = v.journal.room - 1 } in
      let ends = both_made (asks b) (ended b) c.args.parent c.sibling_of-other.result (par b) (c.sibling_of-other.ensures ∙ ap sibling c.task-task.ensures) _ _ _ _ _ _ _ _ _ _ _ _ _ _ pool c.join_children-rest.result.0 c.join_children-rest.result.1 c.put_rest.new.self h6 c.remembering-set.result j (taken (goal.at.invariant_of-self c).After-in_order-children) put in
      let now : SharedValue = record v { pool = pool; sets = h6.sets; marks = h6.marks; steps = v.steps + (part.fresh + 1) } in
      let tree : c.join_children-rest.new.tree ≡ joined_nodes (with_state v.tree part.task Ended) c.args.parent left.side.task right.side.task = c.join_children-rest.ensures.tree ∙ ap (λ ns. joined_nodes ns c.args.parent left.side.task right.side.task) (c.set_state.ensures ∙ ap (λ t. with_state v.tree t Ended) c.task-task.ensures) in
      let same = four_changed now (joined_nodes (with_state v.tree part.task Ended) c.args.parent left.side.task right.side.task) c.join_children-rest.new.tree h6.rests h6.rests (slice_set v.tasks_out k None) c.set.new.self (entered v k part) _ tree refl c.set.ensures refl in
      along v k part c.get-held.result.now c.get-held.ensures _ _ c.alone_of.ensures c.push_reserved.ensures (λ n j. IsSharedValue (with n j) × EndsChild v (with n j) k part (Some c.args.parent))
      (subst (λ (z : SharedValue). IsSharedValue z × EndsChild v z k part (Some c.args.parent)) (sym same) ends)

pub invariant_of-self : goal.invariant_of-self
invariant_of-self c = (both c).0

pub returns-clause-joined : goal.returns-clause-joined
returns-clause-joined c = subst (λ (z : SharedValue). EndsChild z (after c) c.args.worker c.args.part (Some c.args.parent)) c.self.view_is (both c).1

pub returns-clause-task_out : goal.returns-clause-task_out
returns-clause-task_out c = c.set.ensures ∙ ap (λ (z : SharedValue). slice_set z.tasks_out c.args.worker None) c.self.view_is
