-- The task of a part ends by the step after its fresh ones: the parked task that is returned, and the shared value
-- afterwards, whether the run ends with the task or goes on.
use Rattle.step_commit.proofs.Common.{◌≡◌, ℕ, ◌+◌, ◌++◌, ◌<◌, ◌&&◌, not, Option, Some, None, List, [], ◌∷◌, length, length-set, slice_get, slice_set, option_map, refl, ap, sym, subst, ◌∙◌, same_Some, got_within, RunEnd, heap_of, with_state, Ended, CallFrame, RunsPrivateSteps, Belongings, Memory, EndsBelongings, part_for, with_belongings, EntryMakes, taken_by, Marks, NodeGoes, RanCounts, OthersNotes, StandsFor, as_node, WorkerFits, at_belongings, off_belongings, Private, ParkedTask, SharedValue, belongings_in, belongings_of, tree_counts_of, value_of, Enters, ChangesRest, IsWell, changed_form, free_before, rest_off, rest_then, task_is_out, MakesSteps, all_kept, stands_now, made_by, node_by, node_off, alone_entry, ended_rest}
use Rattle.step_commit.proofs.LastStepEntry as last
use Rattle.step_commit.proofs.LastStepEntry.{AsksLast, last_enters, last_entry}

module _ {w : SharedValue} {k : ℕ} {p : Private} (asks : AsksLast w k p) where
  open asks use {I, F, free}
  open (last.names asks) use {t, l, M, L, v, h}

  S0 : StandsFor v (tree_counts_of w) l
  S0 = stands_now w I (last.on asks)

  -- ---- THE PARKED TASK THAT IS RETURNED
  abbrev rest : ParkedTask
  rest = ended_rest p

  node_there : slice_get w.tree t ≡ Some (as_node (heap_of l t).worker F.fits.task)
  node_there = S0.tree_counts.node t ∙ ap (option_map (as_node (heap_of l t).worker)) F.fits.is

  pub has_node : t < length w.tree
  has_node = got_within w.tree t (as_node (heap_of l t).worker F.fits.task) node_there

  pub has_slot : t < length w.rests
  has_slot = subst (λ n. t < n) (sym I.made) has_node

  abbrev vt : Memory
  vt = with_belongings v t h

  abbrev own_belongings : vt.belongings t ≡ h
  own_belongings = at_belongings v t h

  module _ (end : Option RunEnd) (room : ℕ) where
    abbrev pub w' : SharedValue
    w' = record w {
      tree = with_state w.tree t Ended;
      rests = slice_set w.rests t (Some rest);
      tasks_out = slice_set w.tasks_out k None;
      steps = w.steps + (p.fresh + 1);
      end = end;
      journal = record { items = w.journal.items ++ alone_entry k p ∷ []; room = room };
    }

    abbrev v' : Memory
    v' = value_of w'

    pub enters : Enters w w' (last_entry k p)
    enters = last_enters w w' k p (record { journal = refl; program = refl; settings = refl; halted = refl })

    changes : ChangesRest w w' t (Some rest)
    changes = record {
      rests = refl;
      there = has_slot;
      keeps = λ u ne. all_kept w.pool u;
      free = λ u ne f. free_before w.tasks_out k None u f (λ h. ne (same_Some u t (sym h ∙ task_is_out w k p I (last.on asks) F)));
    }

    belongings_now : v'.belongings t ≡ belongings_of rest
    belongings_now = ap belongings_in (rest_then I changes)

    ends_belongings : EndsBelongings vt v' t p.frames.top p.frames.below
    ends_belongings = record {
      frames = ap (λ (z : Belongings). z.frames) own_belongings;
      result = ap (λ (z : Belongings). z.result) belongings_now;
      begun = ap (λ (z : Belongings). z.begun) belongings_now ∙ (sym (last.none asks) ∙ ap (λ (z : Belongings). z.begun) (sym own_belongings));
      view = ap (λ (z : Belongings). z.view) belongings_now ∙ ap (λ (z : Belongings). z.view) (sym own_belongings);
      chunks = ap (λ (z : Belongings). z.chunks) belongings_now ∙ ap (λ (z : Belongings). z.chunks) (sym own_belongings);
      room = ap (λ (z : Belongings). z.room) belongings_now ∙ ap (λ (z : Belongings). z.room) (sym own_belongings);
      since = ap (λ (z : Belongings). z.since) belongings_now ∙ ap (λ (z : Belongings). z.since) (sym own_belongings);
      count = ap (λ (z : Belongings). z.count) belongings_now ∙ ap (λ (z : Belongings). z.count) (sym own_belongings);
      others = λ u ne. ap belongings_in (rest_off I changes u ne) ∙ sym (off_belongings v t h u ne);
      owner = λ c. refl;
      sources = λ u. refl;
    }

    pub makes : (f : CallFrame) × (fs : List CallFrame) × EndsBelongings vt v' t f fs
    makes = (p.frames.top, p.frames.below, ends_belongings)

    pub notes : OthersNotes vt v' t
    notes = record { none = S0.keeps t ∙ ap (λ b. b && not (heap_of l t).swept) (last.idle asks); others = λ u ne. record { keeps = refl; kept = refl; marked = refl } }

    pub node_ends : NodeGoes (tree_counts_of w) (tree_counts_of w') t Ended
    node_ends = record { node = node_by w.tree t Ended (slice_get w.tree t) refl; others = λ u ne. node_off w.tree t Ended (slice_get w.tree t) u ne }

    -- by how the entry splits, and what its last step changes in the memory
    pub ended_made : (E : RunsPrivateSteps w.program w.settings l L t k p.fresh) → WorkerFits w.program w.settings (part_for w.settings t h (taken_by E.splits.kind p.fresh)) v l → (C : EntryMakes w.program v v' M L t h E.splits.task E.splits.line E.splits.kind E.splits.last)
        → Marks w.program v v' M L t h E.splits.task E.splits.line E.splits.kind E.splits.last C → RanCounts w.program (tree_counts_of w) (tree_counts_of w') M L t k p.fresh E.splits.task E.splits.line E.splits.kind E.splits.last → MakesSteps w w' k p p.fresh
    ended_made E own C N counts = record {
      enters = enters;
      form = changed_form I changes (λ r q. subst (IsWell w.pool t) (same_Some rest r q) (F.form, F.measured.0)) (made_by w.tree t Ended (slice_get w.tree t)) refl (length-set w.tasks_out k None) refl;
      units = λ u q ne G. G.measured;
      runs = E;
      own = own;
      makes = C;
      notes = N;
      counts = counts;
    }
