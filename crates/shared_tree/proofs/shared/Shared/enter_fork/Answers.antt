use Rattle.shared_tree.proofs.Common.{◌≡◌, ℕ, ◌+◌, ◌-◌, ◌<◌, ◌++◌, Option, Some, None, List, [], ◌∷◌, length, slice_set, refl, ap, sym, subst, ◌∙◌, ReservedVecValue, EntryValue, TaskNode, depth_of, forked, SetOf, MarkingValue, Child, Private, ParkedTask, TaskSlotsValue, IsSharedValue, SharedValue, four_changed, alone_small, slot_there, next_small, set_there, ForksOn, ForksTo, RestsFork, SetsFork, begun_rest, part_child, waiting_rest, alone_forks, alone_world, rests_fork_by, AsksFork, asks_fork, few_tasks, on, tree_out, the_view, arith, ◌≤◌, HoldsNone, private_limit, asked_alone_forks as asked_alone}
use Rattle.shared_tree.proofs.Joints.{holds_none, no_memory_left}
use Rattle.shared_tree.proofs.StepsEntered.{along, entered}
use Rattle.shared_tree.proofs.shared.Shared.enter_fork.Goals as goal

pub grow-requires-clause-out : goal.grow-requires-clause-out
grow-requires-clause-out c =
    let w : SharedValue = the_view c.self.inside in
    let p : Private = c.args.part in
    let k : ℕ = c.args.worker in
    let asks : AsksFork w k p = asks_fork c.self.view_is c.self.invariant c.requires.fits c.requires.forks c.requires.free in
    tree_out w asks.I (on asks) k p asks.F

pub grow-requires-clause-few : goal.grow-requires-clause-few
grow-requires-clause-few c = few_tasks (the_view c.self.inside) c.self.invariant

pub grow-requires-clause-shallow : goal.grow-requires-clause-shallow
grow-requires-clause-shallow c =
    subst (λ (z : SharedValue). depth_of z.tree c.args.part.task < 1000) (sym c.self.view_is) c.requires.shallow

pub grow-requires-clause-made : goal.grow-requires-clause-made
grow-requires-clause-made c =
    let asks = asks_fork c.self.view_is c.self.invariant c.requires.fits c.requires.forks c.requires.free in
    slot_there (asked_alone asks)

pub push_reserved-requires : goal.push_reserved-requires
push_reserved-requires c =
    subst (λ (z : SharedValue). 0 < z.journal.room) (sym c.self.view_is) c.requires.room

pub overflow_add-self-2 : goal.overflow_add-self-2
overflow_add-self-2 c =
    let asks = asks_fork c.self.view_is c.self.invariant c.requires.fits c.requires.forks c.requires.free in
    let small = alone_small (asked_alone asks) in
    let same : c.get-held.result.now.fresh ≡ c.args.part.fresh = ap (λ (r : Private). r.fresh) c.get-held.ensures in
    omega (arith, small.0, small.1, same)

pub alone_of-requires-clause-few : goal.alone_of-requires-clause-few
alone_of-requires-clause-few c =
    let asks = asks_fork c.self.view_is c.self.invariant c.requires.fits c.requires.forks c.requires.free in
    subst (λ (r : Private). r.fresh ≤ private_limit) (sym c.get-held.ensures) (alone_small (asked_alone asks)).1

pub fork_task_slots-marked-requires-clause-made : goal.fork_task_slots-marked-requires-clause-made
fork_task_slots-marked-requires-clause-made c =
    let p : Private = c.args.part in
    let asks = asks_fork c.self.view_is c.self.invariant c.requires.fits c.requires.forks c.requires.free in
    subst (λ (z : TaskSlotsValue). p.task < length z.rests) (sym c.in-Ok.ensures.task_slots) (slot_there (asked_alone asks))

pub fork_task_slots-marked-requires-clause-noted : goal.fork_task_slots-marked-requires-clause-noted
fork_task_slots-marked-requires-clause-noted c =
    let p : Private = c.args.part in
    let asks = asks_fork c.self.view_is c.self.invariant c.requires.fits c.requires.forks c.requires.free in
    subst (λ (z : TaskSlotsValue). p.task < length z.sets) (sym c.in-Ok.ensures.task_slots) (set_there (asked_alone asks))

pub fork_task_slots-marked-requires-clause-block : goal.fork_task_slots-marked-requires-clause-block
fork_task_slots-marked-requires-clause-block c =
    c.in-Ok.ensures.block

pub fork_task_slots-marked-requires-clause-room : goal.fork_task_slots-marked-requires-clause-room
fork_task_slots-marked-requires-clause-room c =
    c.in-Ok.ensures.room

pub fork_task_slots-marked-requires-clause-next : goal.fork_task_slots-marked-requires-clause-next
fork_task_slots-marked-requires-clause-next c =
    let asks = asks_fork c.self.view_is c.self.invariant c.requires.fits c.requires.forks c.requires.free in
    next_small (asked_alone asks)

-- The value afterwards: it is a shared value, and the fork entered it.
module _ (c : goal.After-keep_room) where
  abbrev w : SharedValue
  w = the_view c.self.inside

  abbrev p : Private
  p = c.args.part

  abbrev k : ℕ
  k = c.args.worker

  abbrev n : TaskSlotsValue
  n = c.fork_task_slots-marked.new.task_slots

  abbrev one : Child
  one = c.in-Ok.first

  abbrev two : Child
  two = c.in-Ok.second

  abbrev with : ℕ → ReservedVecValue EntryValue → SharedValue
  with m j = record w { sets = n.sets; marks = n.marks; steps = m; tree = c.grow.new.tree; rests = n.rests; tasks_out = c.set.new.self; journal = j }

  abbrev after : SharedValue
  after = with (w.steps + (c.get-held.result.now.fresh + 1)) c.push_reserved.new.self

  asks : AsksFork w k p
  asks = asks_fork c.self.view_is c.self.invariant c.requires.fits c.requires.forks c.requires.free

  both : IsSharedValue after × ForksOn w after k p one.task two.task
  both =
      let B : (n : ℕ) × ForksTo w p c.args.left c.args.right n = subst (λ (z : SharedValue). (n : ℕ) × ForksTo z p c.args.left c.args.right n) (sym c.self.view_is) c.requires.by in
      let low : depth_of w.tree p.task < 1000 = subst (λ (z : SharedValue). depth_of z.tree p.task < 1000) (sym c.self.view_is) c.requires.shallow in
      let g : TaskSlotsValue = c.grow.new.task_slots in
      let grown : g ≡ record c.self.inside.heaps.task_slots { blocks = g.blocks; room = g.room } = c.in-Ok.ensures.task_slots in
      let made : p.task < length w.rests = slot_there (asked_alone asks) in
      let first : one ≡ part_child p (length w.rests) c.args.left one.heap.slots one.heap.spare = c.in-Ok.ensures.left_child ∙ ap (λ n. part_child p n c.args.left one.heap.slots one.heap.spare) (sym asks.I.made) in
      let second : two ≡ part_child p (length w.rests + 1) c.args.right two.heap.slots two.heap.spare = c.in-Ok.ensures.right_child ∙ ap (λ n. part_child p (n + 1) c.args.right two.heap.slots two.heap.spare) (sym asks.I.made) in
      let rests : n.rests ≡ slice_set w.rests p.task (Some (waiting_rest p)) ++ Some (begun_rest one) ∷ (Some (begun_rest two) ∷ []) =
      c.fork_task_slots-marked.ensures.rests ∙ ap (λ (z : TaskSlotsValue). slice_set z.rests p.task (Some (waiting_rest p)) ++ Some (begun_rest one) ∷ (Some (begun_rest two) ∷ [])) grown in
      let marks : n.marks ≡ slice_set w.marks p.task None ++ None ∷ (None ∷ []) = c.fork_task_slots-marked.ensures.marks ∙ ap (λ (z : TaskSlotsValue). slice_set z.marks p.task None ++ None ∷ (None ∷ [])) grown in
      let H : RestsFork w.rests n.rests p c.args.left c.args.right = rests_fork_by w.rests n.rests p c.args.left c.args.right one two made first second rests in
      let N : SetsFork w.sets n.sets p.task = subst (λ (z : TaskSlotsValue). SetsFork z.sets n.sets p.task) grown c.fork_task_slots-marked.ensures.sets in
      let j : ReservedVecValue EntryValue = record { items = []; room = w.journal.room - 1 } in
      let v : SharedValue = record w { steps = w.steps + (p.fresh + 1); sets = n.sets; marks = n.marks } in
      let same = four_changed v (forked w.tree p.task) _ n.rests n.rests (slice_set w.tasks_out k None) _ (entered w k p) _ c.in-Ok.ensures.tree refl c.set.ensures refl in
      let ends = alone_forks asks c.args.left c.args.right B.0 B.1 low n.rests n.sets H N n.marks marks j one.task two.task (ap (λ (z : Child). z.task) c.in-Ok.ensures.left_child) (ap (λ (z : Child). z.task) c.in-Ok.ensures.right_child) in
      along w k p c.get-held.result.now c.get-held.ensures _ _ c.alone_of.ensures c.push_reserved.ensures (λ m j. IsSharedValue (with m j) × ForksOn w (with m j) k p one.task two.task)
      (subst (λ (z : SharedValue). IsSharedValue z × ForksOn w z k p one.task two.task) (sym same) (alone_world asks c.args.left c.args.right B.0 B.1 low n.rests n.sets H N n.marks marks j, ends))

pub invariant_of-self-2 : goal.invariant_of-self-2
invariant_of-self-2 c = (both c).0

pub returns : goal.returns
returns c = record {
  refused = refl;
  same = tt;
  still = tt;
  back = tt;
  answered = subst (λ (z : SharedValue). ForksOn z (after c) c.args.worker c.args.part (one c).task (two c).task × HoldsNone (after c) c.args.worker) c.self.view_is
      ((both c).1, holds_none (w c) (after c) (k c) (p c) (asks c).I (both c).0 (asks c).free c.set.ensures);
}

-- the same value, by what a failed call left
unchanged_by : (w : SharedValue) (n : List TaskNode) (h g : TaskSlotsValue) → h.rests ≡ w.rests → h.sets ≡ w.sets → h.marks ≡ w.marks → n ≡ w.tree → g ≡ record h { blocks = g.blocks; room = g.room } → record w { tree = n; rests = g.rests; sets = g.sets; marks = g.marks } ≡ w
unchanged_by w n h g er es em en eg =
    ap (λ (x : List TaskNode). record w { tree = x; rests = g.rests; sets = g.sets; marks = g.marks }) en
    ∙ (ap (λ (x : List (Option ParkedTask)). record w { rests = x; sets = g.sets; marks = g.marks }) (ap (λ (z : TaskSlotsValue). z.rests) eg ∙ er)
    ∙ (ap (λ (x : List SetOf). record w { sets = x; marks = g.marks }) (ap (λ (z : TaskSlotsValue). z.sets) eg ∙ es)
    ∙ ap (λ (x : List (Option MarkingValue)). record w { marks = x }) (ap (λ (z : TaskSlotsValue). z.marks) eg ∙ em)))

pub invariant_of-self : goal.invariant_of-self
invariant_of-self c =
    let e = unchanged_by (the_view c.self.inside) c.grow.new.tree c.self.inside.heaps.task_slots c.grow.new.task_slots refl refl refl c.in_default.ensures.same_tree c.in_default.ensures.task_slots in
    subst IsSharedValue (sym e) c.self.invariant

pub returns-in_default : goal.returns-in_default
returns-in_default c =
    no_memory_left c.args.self.now _ c.args.worker c.args.part
    (unchanged_by (the_view c.self.inside) c.grow.new.tree c.self.inside.heaps.task_slots c.grow.new.task_slots refl refl refl c.in_default.ensures.same_tree c.in_default.ensures.task_slots ∙ c.self.view_is)
