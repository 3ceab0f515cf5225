-- An entry of a join, as the call makes it: what is required of the parts that it joins, and how the code changes slots
-- and sets.
use Rattle.fork_join_commit.proofs.Common.{◌≡◌, ℕ, ◌+◌, ◌<◌, ◌++◌, arith, Bool, true, false, Option, Some, None, List, [], ◌∷◌, length, slice_get, slice_set, option_map, inl, inr, refl, ap, sym, subst, ◌∙◌, option_flatten, IfSome, IsSome, cases_eq, same_Some, got_other, got_within, got_some, none_some, ReservedVecValue, EntryValue, PoolValue, FramesValue, TaskState, Ended, TaskNode, parent_of as parent_in_tree, state_of as state_in_tree, with_state, is_left, sibling, states_change, RememberedValue, lifted, SetOf, content_at, MarkingValue, EndedChild, AreRelabelled, HasCapacityForBoth, HaveEnded, JoinsSides, joined_nodes, with_results, Private, ParkedTask, Calls, SharedValue, marks_at, rest_at, IsSharedValue, HasFrames, stands_now, HasCalls, parent_is as tree_parent_is, some_calls, as_node, alone_entry, EndsChild, nothing_noted, AreSides, CanJoin, HasPlaces, RestsJoin, IsRestOf, SetsJoin, chunk_count, left_child_of, other_child, own_child, parent_side, right_of, sources_at}
use Rattle.step_commit.specs.below.heap_tree.{Waiting}
use Rattle.step_commit.proofs.LastStepEntry as last
use Rattle.fork_join_commit.proofs.ChildReturns as steps
use Rattle.fork_join_commit.proofs.ChildReturns.{AsksEnd}
use Rattle.fork_join_commit.proofs.JoinedBelongings as both_sides
use Rattle.fork_join_commit.proofs.JoinedBelongings.{JoiningTwo}
use Rattle.fork_join_commit.proofs.SiblingReturned as before
use Rattle.fork_join_commit.proofs.JoinEntered as joined
use Rattle.fork_join_commit.proofs.TwoChildren.{both, count_of, each, in_pairs, right_next, sides, waits_in}

module _ {w : SharedValue} {k : ℕ} {p : Private} (asks : AsksEnd w k p) (ended : state_in_tree w.tree (sibling p.task) ≡ Some Ended) where
  open asks use {I}

  abbrev pub q : ℕ
  q = steps.parent asks

  abbrev s' : ℕ
  s' = sibling p.task

  low : 0 < p.task
  low = let a = steps.parent_low asks in omega (arith, a)

  pub parent_is : (parent : ℕ) → parent_in_tree w.tree p.task ≡ Some parent → q ≡ parent
  parent_is parent e = same_Some q parent (sym (steps.tree_parent asks) ∙ e)

  within_by : (o : Option TaskNode) (u : ℕ) → slice_get w.tree u ≡ o → (x : TaskState) → option_map (λ (n : TaskNode). n.state) o ≡ Some x → u < length w.tree
  within_by None u e x h = none_some h
  within_by (Some n) u e x h = got_within w.tree u n e

  pub other_made : s' < length w.tree
  other_made = within_by (slice_get w.tree s') s' refl Ended ended

  pub parent_made : q < length w.tree
  parent_made = let a = steps.parent_low asks in let b = steps.own_made asks in omega (arith, a, b)

  pub own_set : p.task < length w.sets
  own_set = subst (λ n. p.task < n) (sym I.noted) (steps.own_made asks)

  pub other_set : s' < length w.sets
  other_set = subst (λ n. s' < n) (sym I.noted) other_made

  pub parent_set : q < length w.sets
  parent_set = subst (λ n. q < n) (sym I.noted) parent_made

  pub other_apart : s' ≡ p.task → ⊥
  other_apart e = steps.other_apart asks e

  pub parent_apart : q ≡ p.task → ⊥
  parent_apart e = steps.parent_apart asks e

  -- the parent's number is smaller than those of both
  pub parent_other : q ≡ s' → ⊥
  parent_other e = let a = (steps.kept_tree asks).low s' q (steps.other_parent asks) in omega (arith, a, e)

  -- the parent waits in the tree
  parent_waits : state_in_tree w.tree q ≡ Some Waiting
  parent_waits =
      let x = before.waiting_parent asks ended in
      waits_in _ (slice_get w.tree q) x.0 x.2 ((stands_now w I (steps.on asks)).tree_counts.node q ∙ ap (option_map (as_node _)) x.1)

  other_parent : parent_in_tree w.tree s' ≡ Some q
  other_parent = tree_parent_is w I s' ∙ (sym (last.then_parents (steps.asked asks) s') ∙ steps.other_parent asks)

  -- the parent has frames
  pub calls : HasCalls (rest_at w.rests q)
  calls = before.parent_calls asks ended

  -- so it has a slot, which stays when both children leave theirs
  pub parent_slot : (parent : ℕ) → parent_in_tree w.tree p.task ≡ Some parent → IsSome (rest_at w.rests parent)
  parent_slot parent e = subst (λ u. IsSome (rest_at w.rests u)) (parent_is parent e) (some_calls (rest_at w.rests q) calls)

  pub parent_stays : (parent other : ℕ) → parent_in_tree w.tree p.task ≡ Some parent → other ≡ s' → IsSome (rest_at (slice_set (slice_set w.rests p.task None) other None) parent)
  parent_stays parent other e o =
      subst IsSome
      (sym (ap option_flatten (got_other (slice_set w.rests p.task None) other parent None (λ f. parent_other (parent_is parent e ∙ (f ∙ o))) ∙ got_other w.rests p.task parent None (λ f. parent_apart (parent_is parent e ∙ f)))))
      (parent_slot parent e)

  module _ (above beside : ParkedTask) (own_notes other_notes notes : RememberedValue) (above_of : IsRestOf (rest_at w.rests q) above) (beside_of : IsRestOf (rest_at w.rests s') beside) where
    abbrev L : EndedChild
    L = left_child_of (is_left p.task) (own_child p own_notes) (other_child s' beside other_notes)

    abbrev R : EndedChild
    R = right_of (is_left p.task) (own_child p own_notes) (other_child s' beside other_notes)

    abbrev nodes : List TaskNode
    nodes = with_state w.tree p.task Ended

    above_by : (o : Option ParkedTask) → HasCalls o → IsRestOf o above → (o ≡ Some above) × (f : FramesValue) × (above.work ≡ Calls f)
    above_by None h e = absurd h
    above_by (Some x) h e = (ap Some (sym e), h.0, ap (λ (z : ParkedTask). z.work) e ∙ h.1)

    pub above_all : (rest_at w.rests q ≡ Some above) × (f : FramesValue) × (above.work ≡ Calls f)
    above_all = above_by (rest_at w.rests q) calls above_of

    abbrev pub above_is : rest_at w.rests q ≡ Some above
    above_is = above_all.0

    abbrev pub frames : FramesValue
    frames = above_all.1

    abbrev pub frames_are : above.work ≡ Calls frames
    frames_are = above_all.2

    pub at_work : HasFrames above.work
    at_work = subst HasFrames (sym frames_are) tt

    side : AreSides p s' beside L.side.task L.side.heap R.side.heap L.result R.result
    side = sides p beside own_notes other_notes low

    -- both of them are other tasks
    apart_by : (u : ℕ) (b : Bool) → (u ≡ (left_child_of b (own_child p own_notes) (other_child s' beside other_notes)).side.task → ⊥) → (u ≡ (right_of b (own_child p own_notes) (other_child s' beside other_notes)).side.task → ⊥) → (u ≡ p.task → ⊥) × (u ≡ s' → ⊥)
    apart_by u true nl nr = (nl, nr)
    apart_by u false nl nr = (nr, nl)

    apart_both : (u : ℕ) → (u ≡ L.side.task → ⊥) → (u ≡ R.side.task → ⊥) → (u ≡ p.task → ⊥) × (u ≡ s' → ⊥)
    apart_both u nl nr = apart_by u (is_left p.task) nl nr

    -- THE STATES
    states : (u : ℕ) → state_in_tree w.tree u ≡ Some Ended → state_in_tree nodes u ≡ Some Ended
    states u e = elim (cases_eq u p.task) [
      | inl f ↦ ap (state_in_tree nodes) f ∙ (states_change w.tree p.task Ended).set (steps.own_made asks)
      | inr ne ↦ (states_change w.tree p.task Ended).others u ne ∙ e
    ]

    own_ended : state_in_tree nodes p.task ≡ Some Ended
    own_ended = (states_change w.tree p.task Ended).set (steps.own_made asks)

    other_ended : state_in_tree nodes s' ≡ Some Ended
    other_ended = (states_change w.tree p.task Ended).others s' (steps.other_apart asks) ∙ ended

    abbrev HasEnded : EndedChild → Type 0
    HasEnded c = (state_in_tree nodes c.side.task ≡ Some Ended) × (parent_in_tree nodes c.side.task ≡ Some q)

    parents_same : (u : ℕ) → parent_in_tree nodes u ≡ parent_in_tree w.tree u
    parents_same u = ap (λ (f : ℕ → Option ℕ). f u) (states_change w.tree p.task Ended).parents

    both_ended : HasEnded L × HasEnded R
    both_ended =
        each p beside own_notes other_notes low HasEnded (own_ended, parents_same p.task ∙ steps.tree_parent asks) (other_ended, parents_same s' ∙ other_parent)

    have_ended : HaveEnded nodes q L.side.task R.side.task
    have_ended =
        let pairs = in_pairs p beside own_notes other_notes low in
        record {
          waits = (states_change w.tree p.task Ended).others q (steps.parent_apart asks) ∙ parent_waits;
          left_ended = both_ended.0.0;
          right_ended = both_ended.1.0;
          child = both_ended.0.1;
          is_first = pairs.0;
          second = pairs.1;
        }

    abbrev two : JoiningTwo w k p asks
    two = record { above = above; beside = beside; frames = frames; above_is = above_is; calls = frames_are; beside_is = beside_of; c = L.side.task; lh = L.side.heap; rh = R.side.heap; al = L.result; ar = R.result; side = side }

    -- THE CAPACITIES
    module _ (places : HasPlaces w p q) (own_is : own_notes.sources ≡ sources_at w.sets p.task) (other_is : other_notes.sources ≡ sources_at w.sets s') (set_is : IfSome (slice_get w.sets q) (λ z. notes ≡ z.remembered)) where
      set_there : (z : SetOf) × (slice_get w.sets q ≡ Some z)
      set_there = got_some w.sets q (subst (λ n. q < n) (sym I.noted) parent_made)

      of_set : (o : Option SetOf) (z : SetOf) → o ≡ Some z → (P : SetOf → Type 0) → IfSome o P → P z
      of_set o z e P h = subst (λ i. IfSome i P) e h

      of_rest : (o : Option ParkedTask) (z : ParkedTask) → o ≡ Some z → (P : ParkedTask → Type 0) → IfSome o P → P z
      of_rest o z e P h = subst (λ i. IfSome i P) e h

      has_room : HasCapacityForBoth (parent_side q above notes) L.side R.side
      has_room =
          let a = of_rest (rest_at w.rests q) above above_is _ places.heap in
          let b = of_set (slice_get w.sets q) set_there.0 set_there.1 _ places.set in
          let n : notes ≡ set_there.0.remembered = of_set (slice_get w.sets q) set_there.0 set_there.1 (λ z. notes ≡ z.remembered) set_is in
          let c : length beside.heap.chunks ≡ chunk_count (rest_at w.rests s') = count_of (rest_at w.rests s') beside beside_of in
          let d = both p beside own_notes other_notes low (λ i. length i.side.heap.chunks) in
          let e = both p beside own_notes other_notes low (λ i. length i.side.remembered.sources) in
          let f : length own_notes.sources ≡ length (sources_at w.sets p.task) = ap (λ xs. length xs) own_is in
          let g : length other_notes.sources ≡ length (sources_at w.sets s') = ap (λ xs. length xs) other_is in
          let i : notes.slots ≡ set_there.0.remembered.slots = ap (λ (z : RememberedValue). z.slots) n in
          let j : notes.spare ≡ set_there.0.remembered.spare = ap (λ (z : RememberedValue). z.spare) n in
          record {
            slots = omega (arith, a.0, c, d);
            spare = omega (arith, a.1, c, d);
            source_slots = omega (arith, b.0, e, f, g, i);
            source_spare = omega (arith, b.1, e, f, g, j);
          }

      pub can_join : CanJoin nodes w.pool (parent_side q above notes) L R
      can_join = record {
        room = has_room;
        ended = have_ended;
        left_used = both_sides.left_used asks ended two;
        right_used = both_sides.right_used asks ended two;
        apart = both_sides.joined_apart asks ended two;
      }

    -- ---- THE SETS
    pub sets_join : (sets : List SetOf) (rest : ParkedTask) (notes_then : RememberedValue) → JoinsSides (parent_side q above notes) (parent_side q rest notes_then) L.side R.side → own_notes.sources ≡ sources_at w.sets p.task → other_notes.sources ≡ sources_at w.sets s' → notes.sources ≡ sources_at w.sets q
        → length sets ≡ length w.sets → content_at sets p.task ≡ Some nothing_noted → content_at sets s' ≡ Some nothing_noted → content_at sets q ≡ Some (record { sources = notes_then.sources; kept = []; keeps = false })
        → ((u : ℕ) → (u ≡ q → ⊥) → (u ≡ p.task → ⊥) → (u ≡ s' → ⊥) → content_at sets u ≡ content_at w.sets u) → SetsJoin w.sets sets q L.side.task (L.side.task + 1) above.heap.chunks
    sets_join sets rest notes_then J own_is other_is set_is many own_empty other_empty at others =
        let next = right_next p beside own_notes other_notes low in
        let known = each p beside own_notes other_notes low (λ i. i.side.remembered.sources ≡ sources_at w.sets i.side.task) own_is other_is in
        let empty = each p beside own_notes other_notes low (λ i. content_at sets i.side.task ≡ Some nothing_noted) own_empty other_empty in
        let ks = above.heap.chunks in
        let right_is : R.side.remembered.sources ≡ sources_at w.sets (L.side.task + 1) = known.1 ∙ ap (sources_at w.sets) next in
        let now : notes_then.sources ≡ lifted (lifted (sources_at w.sets q) (sources_at w.sets L.side.task) ks) (sources_at w.sets (L.side.task + 1)) ks =
        J.sources
        ∙ (ap (λ xs. lifted (lifted xs L.side.remembered.sources ks) R.side.remembered.sources ks) set_is
        ∙ (ap (λ xs. lifted (lifted (sources_at w.sets q) xs ks) R.side.remembered.sources ks) known.0
        ∙ ap (λ xs. lifted (lifted (sources_at w.sets q) (sources_at w.sets L.side.task) ks) xs ks) right_is)) in
        record {
          many = many;
          parent_set = at ∙ ap (λ xs. Some (record { sources = xs; kept = []; keeps = false })) now;
          left_set = empty.0;
          right_set = ap (content_at sets) (sym next) ∙ empty.1;
          others = λ u nq nc nd. let ne = apart_both u nc (λ e. nd (e ∙ next)) in others u nq ne.0 ne.1;
        }

    -- ---- THE WHOLE ENTRY
    module _ (rests : List (Option ParkedTask)) (sets : List SetOf) (marks : List (Option MarkingValue)) (unmarked : (u : ℕ) → (u ≡ p.task → ⊥) → (u ≡ s' → ⊥) → marks_at marks u ≡ marks_at w.marks u) (pool : PoolValue) (rest : ParkedTask) (H : RestsJoin w.rests rests p q s' (with_results frames L.result R.result) rest.heap above) (N : SetsJoin w.sets sets q L.side.task (L.side.task + 1) above.heap.chunks)
        (relabelled : AreRelabelled w.pool pool (L.side.heap.chunks ++ R.side.heap.chunks) q) (notes_then : RememberedValue) (J : JoinsSides (parent_side q above notes) (parent_side q rest notes_then) L.side R.side) (j : ReservedVecValue EntryValue) where
      abbrev pub then_ : SharedValue
      then_ = record w {
        tree = joined_nodes nodes q L.side.task R.side.task;
        pool = pool;
        rests = rests;
        sets = sets;
        marks = marks;
        tasks_out = slice_set w.tasks_out k None;
        steps = w.steps + (p.fresh + 1);
        journal = record { items = w.journal.items ++ alone_entry k p ∷ []; room = j.room };
      }

      same_tree : record then_ { tree = joined_nodes nodes q L.side.task (L.side.task + 1) } ≡ then_
      same_tree = ap (λ n. record then_ { tree = joined_nodes nodes q L.side.task n }) (sym (right_next p beside own_notes other_notes low))

      pub then_world : IsSharedValue then_
      then_world =
          subst IsSharedValue same_tree
          (joined.alone_world asks ended two rests sets marks unmarked pool rest.heap H N relabelled J.heap J.room j)

      pub then_joins : EndsChild w then_ k p (Some q)
      then_joins =
          subst (λ (z : SharedValue). EndsChild w z k p (Some q)) same_tree
          (joined.alone_joins asks ended two rests sets marks unmarked pool rest.heap H N relabelled J.heap J.room j)
