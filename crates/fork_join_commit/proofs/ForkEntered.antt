-- A fork is committed: the task waits, and two children are ready.
use Rattle.fork_join_commit.proofs.Common.{◌≡◌, ◌⊎◌, ℕ, zero, suc, ◌+◌, ◌<◌, ◌++◌, arith, true, false, nat_lt, Option, Some, None, List, [], ◌∷◌, length, length-set, slice_get, slice_set, option_map, inl, inr, refl, ap, ap₂, sym, subst, ◌∙◌, option_flatten, cases_eq, cases_lt, cond-true, lt-ltb, same_Some, got_back, got_front, got_other, got_past, got_some, ReservedVecValue, Instr, Par, MachineState, Waiting as WaitingOf, Task, onward, child, depth_limit, edge, strand, strand_of, grown_at, EntryValue, Addr, view_below, TaskNode, child_of, depth_of, forked, with_state, all, SetOf, content_at, content_of, MarkingValue, rested, Forking, LastStepForks, RunsPrivateSteps, Belongings, Noted, Memory, sources, AreRoots, ForksBelongings, advanced, child_belongings, with_belongings, NodesFork, ForksNotes, at_belongings, off_belongings, Private, ParkedTask, keeping, levels_of, SharedValue, marks_at, belongings_in, belongings_of, noted_in, tree_counts_of, value_of, IsSharedValue, noted_of, RestIsWell, RestStays, each_form, free_before, still_goes, task_is_out, well_at, MakesSteps, steps_others, steps_world, all_kept, level_is, tree_long, made_by, node_by, node_off, lets_go, alone_entry, node_there, AsksLast, last_enters, last_entry, last_steps, ForksOn as EntersFork, ForksTo, RestsFork, SetsFork, waiting_rest}
use Rattle.step_commit.specs.below.heap_tree.{Waiting}
use Rattle.step_commit.proofs.below.core_invariant.PartFitsMachine as link
use Rattle.step_commit.proofs.LastStepEntry as last
use Rattle.fork_join_commit.proofs.NextStepForks as steps
use Rattle.fork_join_commit.proofs.NextStepForks.{AsksFork}
use Rattle.fork_join_commit.proofs.LastForkKinds.{forks}
use Rattle.fork_join_commit.proofs.RootsListed.{roots_are}
use Rattle.fork_join_commit.proofs.SetsNoted.{empty_form, keeping_kept, keeping_sources, noted_by}

abbrev left_child_of : Instr → ℕ
left_child_of (Par g h) = g
left_child_of _ = 0

abbrev right_of : Instr → ℕ
right_of (Par g h) = h
right_of _ = 0

none_left : (marks : List (Option MarkingValue)) (t : ℕ) → marks_at (slice_set marks t None) t ≡ None
none_left [] t = refl
none_left (m ∷ marks) zero = refl
none_left (m ∷ marks) (suc t) = none_left marks t

module _ {w : SharedValue} {k : ℕ} {p : Private} (asks : AsksFork w k p) (left right number : ℕ) (B : ForksTo w p left right number) (shallow : depth_of w.tree p.task < 1000) where
  open asks use {I, F, free}

  abbrev asked : AsksLast w k p
  asked = steps.asked asks

  open (last.names asked) use {t, l, M, L, v, h, S}

  abbrev a : ℕ
  a = length M.machine.tasks

  -- ---- THE MACHINE THEN
  abbrev y : Task
  y = record S.task { status = WaitingOf; top = onward S.task.top }

  abbrev m' : MachineState
  m' = record M.machine {
    tasks = slice_set M.machine.tasks t y ++ child t (S.task.depth + 1) left S.task.top ∷ child t (S.task.depth + 1) right S.task.top ∷ [];
    store = M.machine.store ++ [] ∷ [] ∷ [];
    edges = M.machine.edges ++ edge (strand_of t S.task) (strand a 0) ∷ edge (strand_of t S.task) (strand (a + 1) 0) ∷ [];
  }

  machine_is : L.machine ≡ m'
  machine_is =
      let lt : S.task.depth < 1000 = let e = steps.depth_is asks in omega (arith, e, shallow) in
      last.machine_then asked
      ∙ (steps.forked_so asks left right number B ∙ cond-true (nat_lt S.task.depth depth_limit) m' _ (lt-ltb S.task.depth 1000 lt))

  at_then : slice_get L.machine.tasks t ≡ Some y
  at_then = ap (λ (m : MachineState). slice_get m.tasks t) machine_is ∙ grown_at M.machine.tasks t S.task y (child t (S.task.depth + 1) left S.task.top) (child t (S.task.depth + 1) right S.task.top) S.at.task

  goes_then : L.machine.end ≡ None
  goes_then = ap (λ (m : MachineState). m.end) machine_is ∙ last.mid_goes asked

  Q : LastStepForks M L t S.task S.line
  Q =
      forks w.program M L t S.task S.line (last.is_not_private asked) left right (steps.line_is_fork asks left right number B) y at_then refl goes_then S.kind S.last

  left_is : Q.left ≡ left
  left_is = ap left_child_of (sym Q.by ∙ steps.line_is_fork asks left right number B)

  right_is : Q.right ≡ right
  right_is = ap right_of (sym Q.by ∙ steps.line_is_fork asks left right number B)

  -- how the entry splits
  abbrev E : RunsPrivateSteps w.program w.settings l L t k p.fresh
  E = record (last.runs_so asked) { splits = record S { kind = Forking; last = Q; apart = last.is_not_private asked; on = λ u. goes_then } }

  -- ---- THE NUMBERS OF THE CHILDREN
  pub made_is : a ≡ length w.tree
  made_is = steps.then_long asks ∙ sym (tree_long w I)

  slot_is : a ≡ length w.rests
  slot_is = made_is ∙ sym I.made

  set_is : a ≡ length w.sets
  set_is = made_is ∙ sym I.noted

  has_node : t < length w.tree
  has_node = node_there (steps.asked_alone asks)

  abbrev vt : Memory
  vt = with_belongings v t h

  abbrev own_belongings : vt.belongings t ≡ h
  own_belongings = at_belongings v t h

  module _ (rests : List (Option ParkedTask)) (sets : List SetOf) (H : RestsFork w.rests rests p left right) (N : SetsFork w.sets sets t) (marks : List (Option MarkingValue)) (unmarked : (u : ℕ) → marks_at marks u ≡ marks_at (slice_set w.marks t None) u) (j : ReservedVecValue EntryValue) where
    abbrev tree : List TaskNode
    tree = forked w.tree t

    abbrev pub w' : SharedValue
    w' = record w { tree = tree; rests = rests; sets = sets; marks = marks; tasks_out = slice_set w.tasks_out k None; steps = w.steps + (p.fresh + 1); journal = record { items = w.journal.items ++ alone_entry k p ∷ []; room = j.room } }

    abbrev v' : Memory
    v' = value_of w'

    left_set : content_at sets a ≡ Some (record { sources = []; kept = []; keeps = false })
    left_set = ap (content_at sets) set_is ∙ N.left_set

    right_set : content_at sets (a + 1) ≡ Some (record { sources = []; kept = []; keeps = false })
    right_set = ap (λ n. content_at sets (n + 1)) set_is ∙ N.right_set

    other_set : (u : ℕ) → (u ≡ t → ⊥) → (u ≡ a → ⊥) → (u ≡ a + 1 → ⊥) → content_at sets u ≡ content_at w.sets u
    other_set u nt na nb = N.others u nt (λ e. na (e ∙ sym set_is)) (λ e. nb (e ∙ ap (λ n. n + 1) (sym set_is)))

    same_noted : (u : ℕ) → (u ≡ t → ⊥) → (u ≡ a → ⊥) → (u ≡ a + 1 → ⊥) → noted_in (slice_get sets u) ≡ noted_in (slice_get w.sets u)
    same_noted u nt na nb = noted_by sets u ∙ (ap noted_of (other_set u nt na nb) ∙ sym (noted_by w.sets u))

    source_same : (u : ℕ) → (u ≡ a → ⊥) → (u ≡ a + 1 → ⊥) → sources v' u ≡ sources v u
    source_same u na nb = elim (cases_eq u t) [
      | inl e ↦
          ap (sources v') e
          ∙ (ap (λ (z : Noted). z.sources) (noted_by sets t) ∙ (ap (λ o. (noted_of o).sources) N.parent ∙ (keeping_sources (content_at w.sets t) ∙ (ap (λ (z : Noted). z.sources) (sym (noted_by w.sets t)) ∙ ap (sources v) (sym e)))))
      | inr nt ↦ ap (λ (z : Noted). z.sources) (same_noted u nt na nb)
    ]

    -- a child sees what is immutable in its parent's belongings
    begun_belongings : (g : ℕ) → record (child_belongings g h) { view = levels_of (view_below p.heap.chunks (Some p.view)) } ≡ child_belongings g h
    begun_belongings g = ap (λ ls. let z : Belongings = record (child_belongings g h) { view = ls ∷ levels_of p.view } in z) (level_is p.heap.chunks)

    forks_belongings : ForksBelongings vt v' t a (a + 1) Q.left Q.right
    forks_belongings = record {
      belongings = ap belongings_in H.parent ∙ (ap (λ o. let z : Belongings = record (belongings_of (waiting_rest p)) { begun = o } in z) (sym (last.none asked)) ∙ ap (λ (z : Belongings). record z { frames = advanced z.frames }) (sym own_belongings));
      left = ap v'.belongings slot_is ∙ (ap belongings_in H.left_slot.2 ∙ (begun_belongings left ∙ ap₂ (λ g (z : Belongings). child_belongings g z) (sym left_is) (sym own_belongings)));
      right = ap (λ n. v'.belongings (n + 1)) slot_is ∙ (ap belongings_in H.right_slot.2 ∙ (begun_belongings right ∙ ap₂ (λ g (z : Belongings). child_belongings g z) (sym right_is) (sym own_belongings)));
      others = λ u nt na nb. ap belongings_in (H.others u nt (λ e. na (e ∙ sym slot_is)) (λ e. nb (e ∙ ap (λ n. n + 1) (sym slot_is)))) ∙ sym (off_belongings v t h u nt);
      owner = λ c. refl;
      left_noted = ap (λ (z : Noted). z.sources) (noted_by sets a ∙ ap noted_of left_set);
      right_noted = ap (λ (z : Noted). z.sources) (noted_by sets (a + 1) ∙ ap noted_of right_set);
      sources = λ u na nb. source_same u na nb;
    }

    -- what is kept from now on
    set_there : (s : SetOf) × (slice_get w.sets t ≡ Some s)
    set_there = got_some w.sets t (subst (λ n. t < n) (sym I.noted) has_node)

    keeps_now : (v'.noted t).keeps ≡ true
    keeps_now = ap (λ (z : Noted). z.keeps) (noted_by sets t ∙ ap noted_of (N.parent ∙ ap (λ o. option_map (keeping true) (option_map content_of o)) set_there.1))

    forks_notes : ForksNotes vt v' t a (a + 1)
    forks_notes = record {
      keeps = keeps_now;
      kept = ap (λ (z : Noted). z.kept) (noted_by sets t) ∙ (ap (λ o. (noted_of o).kept) N.parent ∙ keeping_kept (content_at w.sets t));
      marked = unmarked t ∙ none_left w.marks t;
      left = ap (λ (z : Noted). z.keeps) (noted_by sets a ∙ ap noted_of left_set);
      right = ap (λ (z : Noted). z.keeps) (noted_by sets (a + 1) ∙ ap noted_of right_set);
      others = λ u nt na nb. let e = same_noted u nt na nb in record { keeps = ap (λ (z : Noted). z.keeps) e; kept = ap (λ (z : Noted). z.kept) e; marked = unmarked u ∙ ap option_flatten (got_other w.marks t u None nt) };
    }

    roots : (rs : List Addr) × AreRoots vt (rested M t) t rs
    roots = roots_are vt (rested M t) t (link.W w k p I F (steps.on asks))

    -- ---- THE TREE
    abbrev old : List TaskNode
    old = with_state w.tree t Waiting

    old_long : length old ≡ length w.tree
    old_long = made_by w.tree t Waiting (slice_get w.tree t)

    child_node : (i : ℕ) → slice_get tree (length w.tree + i) ≡ slice_get (child_of t ∷ child_of t ∷ []) i
    child_node i = ap (λ n. slice_get tree (n + i)) (sym old_long) ∙ got_back old (child_of t ∷ child_of t ∷ []) i

    node_front : (u : ℕ) → u < length w.tree → slice_get tree u ≡ slice_get old u
    node_front u lt = got_front old (child_of t ∷ child_of t ∷ []) u (subst (λ n. u < n) (sym old_long) lt)

    node_other : (u : ℕ) → (u ≡ t → ⊥) → (u ≡ a → ⊥) → (u ≡ a + 1 → ⊥) → slice_get tree u ≡ slice_get w.tree u
    node_other u nt na nb = elim (cases_lt u (length w.tree)) [
      | inl lt ↦ node_front u lt ∙ node_off w.tree t Waiting (slice_get w.tree t) u nt
      | inr le ↦
          let e = made_is in
          let n = all w.tree t in
          got_past tree u (omega (arith, le, na, nb, e, n)) ∙ sym (got_past w.tree u le)
    ]

    nodes_fork : NodesFork (tree_counts_of w) (tree_counts_of w') t a (a + 1)
    nodes_fork = record {
      parent = node_front t has_node ∙ node_by w.tree t Waiting (slice_get w.tree t) refl;
      left = ap (slice_get tree) (let e : a ≡ length w.tree + 0 = omega (arith, made_is) in e) ∙ child_node 0;
      right = ap (slice_get tree) (let e : a + 1 ≡ length w.tree + 1 = omega (arith, made_is) in e) ∙ child_node 1;
      others = node_other;
    }

    each : (u : ℕ) → RestIsWell w' u ⊎ RestStays w w' u
    each u = elim (cases_eq u t) [
      | inl e ↦ inl (well_at w' u t (waiting_rest p) e H.parent (F.form, F.measured.0))
      | inr nt ↦ elim (cases_eq u (length w.rests)) [
        | inl e ↦ inl (well_at w' u (length w.rests) _ e H.left_slot.2 (empty_form H.left_slot.0 H.left_slot.1, λ c i. absurd i))
        | inr na ↦ elim (cases_eq u (length w.rests + 1)) [
          | inl e ↦ inl (well_at w' u (length w.rests + 1) _ e H.right_slot.2 (empty_form H.right_slot.0 H.right_slot.1, λ c i. absurd i))
          | inr nb ↦ inr (record { rest = H.others u nt na nb; keeps = all_kept w.pool u; free = λ f. free_before w.tasks_out k None u f (λ h. nt (same_Some u t (sym h ∙ task_is_out w k p I (steps.on asks) F))) })
        ]
      ]
    ]

    made : MakesSteps w w' k p p.fresh
    made = record {
      enters = last_enters w w' k p (record { journal = refl; program = refl; settings = refl; halted = refl });
      form = let n = all w.tree t in each_form I each (H.count ∙ (ap (λ n. n + 2) I.made ∙ sym n)) (N.count ∙ (ap (λ n. n + 2) I.noted ∙ sym n)) (length-set w.tasks_out k None) refl;
      units = λ u q ne G. G.measured;
      runs = E;
      own = F.fits;
      makes = forks_belongings;
      notes = (roots.0, roots.1, forks_notes);
      counts = record { tree = nodes_fork; task_out = lets_go w w' (last_entry k p) I asked.free refl; outputs = refl; end = refl; used = refl; steps = last_steps w p };
    }

    pub forked_world : IsSharedValue w'
    forked_world = steps_world I F asked.free made

    pub forked_on : (b c : ℕ) → b ≡ length w.tree → c ≡ length w.tree + 1 → EntersFork w w' k p b c
    forked_on b c eb ec =
        let long = tree_long w I in
        record {
          enters = record { journal = refl; program = refl; settings = refl; halted = refl };
          left_is = eb ∙ long;
          right_is = ec ∙ ap (λ n. n + 1) long;
          goes = still_goes I asked.free made.enters forked_world (steps.on asks) refl;
          others = steps_others I F asked.free made;
        }
