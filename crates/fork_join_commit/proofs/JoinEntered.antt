-- A child's last frame returns after its sibling's: both join their parent, which is ready again.
use Rattle.fork_join_commit.proofs.Common.{◌≡◌, ◌⊎◌, ℕ, ◌+◌, ◌++◌, arith, Option, Some, None, List, [], ◌∷◌, length-set, slice_get, slice_set, inl, inr, refl, ap, sym, subst, ◌∙◌, cases_eq, same_Some, ReservedVecValue, Task, EntryValue, Ledger, PoolValue, LeafHeapValue, merged, room_of, with_places, Level, Ended, TaskNode, state_of as state_in_tree, with_state, SetOf, Content, content_at, MarkingValue, AreRelabelled, joined_nodes, with_results, rested, EndsLast, RunsPrivateSteps, Noted, Memory, sources, JoinsBelongings, with_belongings, NodesJoin, JoinsNotes, MemoryStands, Private, ParkedTask, Work, Calls, SharedValue, noted_in, belongings_by, belongings_in, marks_at, tree_counts_of, value_of, HeapForm, IsSharedValue, noted_of, RestIsWell, RestStays, accounts_are, each_form, free_before, none_at, still_goes, task_is_out, well_at, MakesSteps, steps_others, steps_world, lets_go, alone_entry, AsksLast, last_enters, last_entry, last_steps, EndsChild, running_parent, RestsJoin, SetsJoin, sources_at}
use Rattle.step_commit.specs.below.core_invariant.{no_belongings}
use Rattle.step_commit.proofs.LastStepEntry as last
use Rattle.fork_join_commit.proofs.ChildReturns as steps
use Rattle.fork_join_commit.proofs.ChildReturns.{AsksEnd}
use Rattle.fork_join_commit.proofs.JoinUnits as units
use Rattle.fork_join_commit.proofs.SetsNoted.{noted_by}
use Rattle.fork_join_commit.proofs.JoinBelongings.{Merges, by_content, joins_belongings}
use Rattle.fork_join_commit.proofs.JoinTree.{joined_long, left_node, other_node, parent_node, right_node}
use Rattle.fork_join_commit.proofs.MergedHeapForm.{merged_form}
use Rattle.fork_join_commit.proofs.SiblingReturned as before
use Rattle.fork_join_commit.proofs.JoinedBelongings as both
use Rattle.fork_join_commit.proofs.JoinedBelongings.{JoiningTwo}

module _ {w : SharedValue} {k : ℕ} {p : Private} (asks : AsksEnd w k p) (ended : state_in_tree w.tree (steps.other asks) ≡ Some Ended) where
  open asks use {I, F, free}

  abbrev asked : AsksLast w k p
  asked = steps.asked asks

  open (last.names (steps.asked asks)) use {t, l, M, L, v, h, S}

  abbrev R : Ledger
  R = rested M t

  abbrev vt : Memory
  vt = with_belongings v t h

  abbrev x : Task
  x = S.task

  abbrev pub q : ℕ
  q = steps.parent asks

  abbrev pub s : ℕ
  s = steps.other asks

  abbrev W : MemoryStands vt R
  W = before.W asks ended

  abbrev Q : EndsLast M L t x
  Q = before.Q asks ended

  abbrev E : RunsPrivateSteps w.program w.settings l L t k p.fresh
  E = before.E asks ended

  module _ (two : JoiningTwo w k p asks) where
    open two use {above, beside, frames, c, lh, rh, al, ar}

    module _ (rests : List (Option ParkedTask)) (sets : List SetOf) (marks : List (Option MarkingValue)) (unmarked : (u : ℕ) → (u ≡ t → ⊥) → (u ≡ s → ⊥) → marks_at marks u ≡ marks_at w.marks u) (pool : PoolValue) (heap : LeafHeapValue) (H : RestsJoin w.rests rests p q s (with_results frames al ar) heap above) (N : SetsJoin w.sets sets q c (c + 1) above.heap.chunks)
        (relabelled : AreRelabelled w.pool pool (lh.chunks ++ rh.chunks) q) (heap_is : heap ≡ with_places (merged above.heap lh rh) heap.slots heap.spare) (room_is : room_of heap ≡ room_of above.heap) (j : ReservedVecValue EntryValue) where
      abbrev tree : List TaskNode
      tree = joined_nodes (with_state w.tree t Ended) q c (c + 1)

      abbrev pub w' : SharedValue
      w' = record w { tree = tree; pool = pool; rests = rests; sets = sets; marks = marks; tasks_out = slice_set w.tasks_out k None; steps = w.steps + (p.fresh + 1); journal = record { items = w.journal.items ++ alone_entry k p ∷ []; room = j.room } }

      abbrev v' : Memory
      v' = value_of w'

      -- ---- WHAT IS NOTED
      sources_was : (u : ℕ) → sources vt u ≡ sources_at w.sets u
      sources_was u = ap (λ (z : Noted). z.sources) (noted_by w.sets u) ∙ by_content (content_at w.sets u)

      set_then : (u : ℕ) (y : Content) → content_at sets u ≡ Some y → noted_in (slice_get sets u) ≡ noted_of (Some y)
      set_then u y e = noted_by sets u ∙ ap noted_of e

      same_noted : (u : ℕ) → (u ≡ q → ⊥) → (u ≡ c → ⊥) → (u ≡ c + 1 → ⊥) → noted_in (slice_get sets u) ≡ noted_in (slice_get w.sets u)
      same_noted u nq nc nd = noted_by sets u ∙ (ap noted_of (N.others u nq nc nd) ∙ sym (noted_by w.sets u))

      notes : JoinsNotes vt v' q c (c + 1)
      notes = record {
        parent = ap (λ (z : Noted). z.keeps) (set_then q _ N.parent_set);
        left = ap (λ (z : Noted). z.keeps) (set_then c _ N.left_set);
        right = ap (λ (z : Noted). z.keeps) (set_then (c + 1) _ N.right_set);
        others = λ u nq nc nd.
            let e = same_noted u nq nc nd in
            let f = both.apart_of asks ended two u nc nd in
            record { keeps = ap (λ (z : Noted). z.keeps) e; kept = ap (λ (z : Noted). z.kept) e; marked = unmarked u f.0 f.1 };
      }

      -- ---- THE BELONGINGS
      abbrev HasBoth : ℕ → LeafHeapValue → Type 0
      HasBoth u g = (n : ℕ) × (z : Work) × (view : List Level) × (vt.belongings u ≡ belongings_by g view n z) × (v'.belongings u ≡ no_belongings)

      both_then : HasBoth c lh × HasBoth (c + 1) rh
      both_then =
          both.sides_of asks ended two HasBoth (p.allocations, Calls p.frames, p.view, before.own_here asks ended, ap belongings_in H.own_slot)
          (beside.allocations, beside.work, beside.view, (both.belongings_beside asks ended two), ap belongings_in H.other_slot)

      merges : Merges vt v' w.pool pool q c (c + 1) al ar
      merges = record {
        own_heap = above.heap;
        left_heap = lh;
        right_heap = rh;
        heap_then = heap;
        own_view = above.view;
        left_view = both_then.0.2;
        right_view = both_then.1.2;
        own_count = above.allocations;
        left_count = both_then.0.0;
        right_count = both_then.1.0;
        frames = frames;
        left_work = both_then.0.1;
        right_work = both_then.1.1;
        own_belongings = (both.belongings_above asks ended two);
        left_belongings = both_then.0.3;
        right_belongings = both_then.1.3;
        own_then = ap belongings_in H.parent_slot;
        left_then = both_then.0.4;
        right_then = both_then.1.4;
        heap_is = heap_is;
        room_is = room_is;
        small = (both.small asks ended two);
        others = λ u nq nc nd. let e = both.apart_of asks ended two u nc nd in ap belongings_in (H.others u nq e.0 e.1) ∙ sym (before.off asks ended u e.0);
        owner = λ n. refl;
        owner_then = λ n. refl;
        relabelled = relabelled;
        own_sources = sources_at w.sets q;
        left_sources = sources_at w.sets c;
        right_sources = sources_at w.sets (c + 1);
        own_noted = sources_was q;
        left_noted = sources_was c;
        right_noted = sources_was (c + 1);
        own_noted_then = ap (λ (z : Noted). z.sources) (set_then q _ N.parent_set);
        left_noted_then = ap (λ (z : Noted). z.sources) (set_then c _ N.left_set);
        right_noted_then = ap (λ (z : Noted). z.sources) (set_then (c + 1) _ N.right_set);
        others_noted = λ u nq nc nd. ap (λ (z : Noted). z.sources) (same_noted u nq nc nd);
      }

      joins_so : JoinsBelongings vt v' Q.parent Q.left (Q.left + 1) al ar
      joins_so =
          subst (λ n. JoinsBelongings vt v' Q.parent n (n + 1) al ar) (sym (both.left_is asks ended two))
          (subst (λ n. JoinsBelongings vt v' n c (c + 1) al ar) (sym (before.parent_same asks ended)) (joins_belongings vt v' R W w.pool pool q c (c + 1) al ar (before.rests_parent asks ended) (both.rests_c asks ended two) (both.rests_d asks ended two) merges))

      notes_so : JoinsNotes vt v' Q.parent Q.left (Q.left + 1)
      notes_so = subst (λ n. JoinsNotes vt v' Q.parent n (n + 1)) (sym (both.left_is asks ended two)) (subst (λ n. JoinsNotes vt v' n c (c + 1)) (sym (before.parent_same asks ended)) notes)

      -- ---- THE TREE
      q_c : q ≡ c → ⊥
      q_c e = let lt = (both.q_low asks ended two) in omega (arith, e, lt)

      q_d : q ≡ c + 1 → ⊥
      q_d e = let lt = (both.q_low asks ended two) in omega (arith, e, lt)

      c_d : c ≡ c + 1 → ⊥
      c_d e = omega (arith, e)

      nodes : NodesJoin (tree_counts_of w) (tree_counts_of w') q c (c + 1)
      nodes = record {
        parent = parent_node w.tree t q c (c + 1) (both.child_of_two asks ended two) q_c q_d c_d;
        left = left_node w.tree t q c (c + 1) (both.child_of_two asks ended two) q_c q_d c_d;
        right = right_node w.tree t q c (c + 1) (both.child_of_two asks ended two) q_c q_d c_d;
        others = other_node w.tree t q c (c + 1) (both.child_of_two asks ended two) q_c q_d c_d;
      }

      nodes_so : NodesJoin (tree_counts_of w) (tree_counts_of w') Q.parent Q.left (Q.left + 1)
      nodes_so = subst (λ n. NodesJoin (tree_counts_of w) (tree_counts_of w') Q.parent n (n + 1)) (sym (both.left_is asks ended two)) (subst (λ n. NodesJoin (tree_counts_of w) (tree_counts_of w') n c (c + 1)) (sym (before.parent_same asks ended)) nodes)

      heap_form : HeapForm heap
      heap_form = subst HeapForm (sym heap_is) (merged_form above.heap lh rh (both.above_form asks ended two) (both.child_forms asks ended two).0 (both.child_forms asks ended two).1 (both.joined_apart asks ended two) (both.left_none asks ended two) (both.right_none asks ended two) heap.slots heap.spare)

      each : (u : ℕ) → RestIsWell w' u ⊎ RestStays w w' u
      each u = elim (cases_eq u q) [
        | inl e ↦ inl (well_at w' u q _ e H.parent_slot (heap_form, units.heap_measured asks ended two rests pool heap H relabelled heap_is))
        | inr nq ↦ elim (cases_eq u t) [
          | inl e ↦ inl (none_at w' u t e H.own_slot)
          | inr nt ↦ elim (cases_eq u s) [
            | inl e ↦ inl (none_at w' u s e H.other_slot)
            | inr ns ↦
                let apart = units.other_apart asks ended two u nt ns in
                inr (record {
                  rest = H.others u nq nt ns;
                  keeps = units.units_stay asks ended two rests pool heap H relabelled heap_is u apart.0 apart.1;
                  free = λ f. free_before w.tasks_out k None u f (λ h. nt (same_Some u t (sym h ∙ task_is_out w k p I (steps.on asks) F)));
                })
          ]
        ]
      ]

      made : MakesSteps w w' k p p.fresh
      made =
          let n = joined_long w.tree t q c (c + 1) (both.child_of_two asks ended two) q_c q_d c_d in
          let r = both.results asks ended two in
          record {
            enters = last_enters w w' k p (record { journal = refl; program = refl; settings = refl; halted = refl });
            form = each_form I each (H.many ∙ (I.made ∙ sym n)) (N.many ∙ (I.noted ∙ sym n)) (length-set w.tasks_out k None) relabelled.limit;
            units = units.others_measured asks ended two rests pool heap H relabelled heap_is;
            runs = E;
            own = F.fits;
            makes = (al, ar, joins_so, r.0, r.1);
            notes = notes_so;
            counts = record { tree = nodes_so; task_out = lets_go w w' (last_entry k p) I asked.free refl; outputs = refl; end = refl; used = relabelled.units; steps = last_steps w p };
          }

      pub alone_world : IsSharedValue w'
      alone_world = steps_world I F asked.free made

      pub alone_joins : EndsChild w w' k p (Some q)
      alone_joins = record {
        enters = record { journal = refl; program = refl; settings = refl; halted = refl };
        goes = still_goes I asked.free made.enters alone_world (steps.on asks) refl;
        resumed = sym (ap (λ (i : Ledger). running_parent i.machine.tasks t) (accounts_are I asked.free made.enters) ∙ before.parent_then asks ended);
        others = steps_others I F asked.free made;
      }
