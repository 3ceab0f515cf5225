use Rattle.shared_tree.proofs.Common.{refl, ◌≡◌, ℕ, ◌+◌, ◌-◌, Some, None, [], slice_set, ap, sym, subst, ◌∙◌, Done, Machine, Ended, with_state, Private, Returns, IsSharedValue, SharedValue, ParkedTask, TaskSlotsValue, four_changed, FinishesAlone, EndingTells, ended_rest, AsksAlone, asks_alone, alone_small, finishes_alone, finished_world, slot_there, node_there, the_view, arith, ◌≤◌, ◌<◌, length, private_limit, ReservedVecValue, EntryValue}
use Rattle.shared_tree.proofs.Joints.{no_memory_left}
use Rattle.shared_tree.proofs.StepsEntered.{along, entered}
use Rattle.shared_tree.proofs.shared.Shared.ran_done.Goals as goal
use Rattle.shared_tree.proofs.shared.Shared.ran_done.Goals.{After-put_rest}

pub overflow_add-self-2 : goal.overflow_add-self-2
overflow_add-self-2 c =
    let asks = asks_alone c.self.view_is c.self.invariant c.requires.fits c.requires.shared c.requires.free in
    let small = alone_small asks in
    let same : c.get-held.result.now.fresh ≡ c.args.part.fresh = ap (λ (r : Private). r.fresh) c.get-held.ensures in
    omega (arith, small.0, small.1, same)

pub alone_of-requires-clause-few : goal.alone_of-requires-clause-few
alone_of-requires-clause-few c =
    let asks = asks_alone c.self.view_is c.self.invariant c.requires.fits c.requires.shared c.requires.free in
    subst (λ (r : Private). r.fresh ≤ private_limit) (sym c.get-held.ensures) (alone_small asks).1

pub set_state-requires : goal.set_state-requires
set_state-requires c =
    let asks = asks_alone c.self.view_is c.self.invariant c.requires.fits c.requires.shared c.requires.free in
    subst (λ t. t < length (the_view c.self.inside).tree) (sym c.task-task.ensures) (node_there asks)

pub make_block-requires : goal.make_block-requires
make_block-requires c =
    let asks = asks_alone c.self.view_is c.self.invariant c.requires.fits c.requires.shared c.requires.free in
    record { made = subst (λ t. t < length (the_view c.self.inside).rests) (sym c.task-task.ensures) (slot_there asks) }

pub invariant_of-self : goal.invariant_of-self
invariant_of-self c =
    subst (λ (h : TaskSlotsValue). IsSharedValue (record (the_view c.self.inside) { rests = h.rests; sets = h.sets; marks = h.marks })) (sym c.make_block.ensures.task_slots) c.self.invariant

-- The value afterwards: it is a shared value, and the end of the root entered it.
module _ (c : After-put_rest) where
  abbrev w : SharedValue
  w = the_view c.self.inside

  abbrev p : Private
  p = c.args.part

  abbrev k : ℕ
  k = c.args.worker

  abbrev with : ℕ → TaskSlotsValue → ReservedVecValue EntryValue → SharedValue
  with n h j = record w { steps = n; end = Some (Machine Done); tree = c.set_state.new.self; rests = h.rests; sets = h.sets; marks = h.marks; tasks_out = c.set.new.self; journal = j }

  abbrev after : SharedValue
  after = with (w.steps + (c.get-held.result.now.fresh + 1)) c.put_rest.new.self c.push_reserved.new.self

  both : IsSharedValue after × FinishesAlone w after k p
  both =
      let asks : AsksAlone w k p = asks_alone c.self.view_is c.self.invariant c.requires.fits c.requires.shared c.requires.free in
      let T : (n : ℕ) × EndingTells w p Returns n = subst (λ (z : SharedValue). (n : ℕ) × EndingTells z p Returns n) (sym c.self.view_is) c.requires.at_end.returns in
      let hm : TaskSlotsValue = record c.self.inside.heaps.task_slots { rests = slice_set w.rests p.task (Some (ended_rest p)); blocks = c.make_block.new.self.blocks } in
      let put : c.put_rest.new.self ≡ hm =
      subst (λ t. c.put_rest.new.self ≡ record c.make_block.new.self { rests = slice_set c.make_block.new.self.rests t (Some c.at_end.result) }) c.task-task.ensures c.put_rest.ensures
      ∙ (ap (λ (h : TaskSlotsValue). record h { rests = slice_set h.rests p.task (Some c.at_end.result) }) c.make_block.ensures.task_slots
      ∙ ap (λ (r : ParkedTask). record hm { rests = slice_set w.rests p.task (Some r) }) c.at_end.ensures) in
      let j : ReservedVecValue EntryValue = record { items = []; room = w.journal.room - 1 } in
      let same = four_changed (record w { steps = w.steps + (p.fresh + 1); end = Some (Machine Done) }) (with_state w.tree p.task Ended) _ (slice_set w.rests p.task (Some (ended_rest p))) _ (slice_set w.tasks_out k None) _ (entered w k p) _
      (subst (λ t. c.set_state.new.self ≡ with_state w.tree t Ended) c.task-task.ensures c.set_state.ensures) refl c.set.ensures refl in
      along w k p c.get-held.result.now c.get-held.ensures _ _ c.alone_of.ensures c.push_reserved.ensures (λ n j. IsSharedValue (with n c.put_rest.new.self j) × FinishesAlone w (with n c.put_rest.new.self j) k p)
      (subst (λ (h : TaskSlotsValue). IsSharedValue (with (w.steps + (p.fresh + 1)) h (entered w k p)) × FinishesAlone w (with (w.steps + (p.fresh + 1)) h (entered w k p)) k p) (sym put)
      (subst (λ (z : SharedValue). IsSharedValue z × FinishesAlone w z k p) (sym same) (finished_world asks T.0 T.1 c.requires.at_end.root j, finishes_alone asks T.0 T.1 c.requires.at_end.root j)))

pub invariant_of-self-2 : goal.invariant_of-self-2
invariant_of-self-2 c = (both (goal.at.invariant_of-self-2 c).After-put_rest).0

pub returns : goal.returns
returns c =
    let b = (goal.at.returns c).After-put_rest in
    record { refused = refl; same = tt; still = tt; back = tt; answered = subst (λ (z : SharedValue). FinishesAlone z (after b) c.args.worker c.args.part) c.self.view_is (both b).1 }

pub returns-then-is_err : goal.returns-then-is_err
returns-then-is_err c =
    no_memory_left c.args.self.now _ c.args.worker c.args.part
    (ap (λ (h : TaskSlotsValue). record (the_view c.self.inside) { rests = h.rests; sets = h.sets; marks = h.marks }) c.make_block.ensures.task_slots ∙ c.self.view_is)

pub push_reserved-requires : goal.push_reserved-requires
push_reserved-requires c = subst (λ (z : SharedValue). 0 < z.journal.room) (sym c.self.view_is) c.requires.room
