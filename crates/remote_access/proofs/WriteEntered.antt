-- A write of an object of another task is committed.
use Rattle.remote_access.proofs.Common.{◌≡◌, ℕ, ◌+◌, ◌++◌, true, Option, Some, None, List, [], ◌∷◌, length, slice_get, inl, inr, refl, ap, sym, subst, ◌∙◌, cases_eq, false≢true, same_Some, got_other, got_same, none_some, ReservedVecValue, Name, Task, is_running, is_waiting, waiting_stops, EntryValue, Heap, Ledger, heap_of, or_fresh, tasks_are_out_once, Addr, Birth, Cell, size_of, Located, located, with_fields, CallFrame, SetOf, Rests, RunsPrivateSteps, Writing, WritesOther, Belongings, Memory, part_for, with_belongings, Stores, BelongingsAfterStore, StoreMarks, RanCounts, StandsFor, StandsForAll, by_end, WorkerFits, ran_fits_then, ran_stands_for, ran_leaves, Private, ParkedTask, SharedValue, tree_counts_of, value_of, IsSharedValue, OthersFit, belongings_of_part, part_of, Enters, ChangesRest, IsWell, changed_form, entered_world, part_fits, still_goes, tasks_apart, all_kept, fits_held, stands_for_held, stands_now, GoesAlone, alone_entry, AsksLast, last_enters, last_entry, last_steps}
use Rattle.step_commit.proofs.LastStepEntry as last
use Rattle.remote_access.proofs.ForeignObject.{IsForeign}
use Rattle.remote_access.proofs.ObjectWritten as other
use Rattle.remote_access.proofs.ObjectWritten.{resting_is}

-- a waiting task doesn't run
running_not : {A : Type 0} (o : Option Task) → is_waiting o ≡ true → is_running o ≡ true → A
running_not o h r = absurd (false≢true (sym (waiting_stops o h) ∙ r))

module _ {w : SharedValue} {k : ℕ} {p : Private} (asks : AsksLast w k p) where
  open asks use {I, F, free}
  open (last.names asks) use {t, l, M, L, h, S}

  abbrev pub on : l.end ≡ None
  on = last.on asks

  abbrev pub v0 : Memory
  v0 = other.v0 w k p I F on

  -- before it, waiting tasks rest
  waits_l : (u : ℕ) → is_waiting (slice_get l.machine.tasks u) ≡ true → Rests l u
  waits_l u h' = waits_l_by_cases (heap_of l u).worker refl
    where
      waits_l_by_cases : (o : Option ℕ) → (heap_of l u).worker ≡ o → Rests l u
      waits_l_by_cases None e = e
      waits_l_by_cases (Some x) e = running_not (slice_get l.machine.tasks u) h' ((tasks_are_out_once w.program w.settings w.journal.items I.legal).runs on u x e)

  stands_0 : StandsFor v0 (tree_counts_of w) l
  stands_0 = stands_for_held (value_of w) v0.belongings l (λ u r. resting_is l (value_of w).belongings u r) waits_l (tree_counts_of w) (stands_now w I on)

  all_0 : StandsForAll v0 (tree_counts_of w) l
  all_0 = subst (λ o. StandsFor v0 (tree_counts_of w) (by_end l o)) (sym on) stands_0

  abbrev R : RunsPrivateSteps w.program w.settings l L t k p.fresh
  R = last.runs_so asks

  own_0 : WorkerFits w.program w.settings (part_for w.settings t h p.fresh) v0 l
  own_0 = fits_held (value_of w) v0.belongings l (λ u r. resting_is l (value_of w).belongings u r) w.program w.settings (part_for w.settings t h p.fresh) R.knows.sound (last.before_goes asks) F.fits

  module _ (n : Name) (a : Addr) (O : IsForeign w (with_belongings (value_of w) t h) (other.L w k p I F on) t n a) (d : Cell) (mark : d.mark ≡ (other.c w k p I F on n a O).mark) (size : size_of d ≡ size_of (other.c w k p I F on n a O))
      (f : Located → Located) (fields : (number at : ℕ) (b : Birth) → with_fields d (located number at b (other.c w k p I F on n a O)) ≡ f (located number at b (other.c w k p I F on n a O))) (sets : List SetOf) (many : length sets ≡ length w.sets) (top : CallFrame) where
    abbrev pub rests : List (Option ParkedTask)
    rests = other.rests w k p I F on n a O d mark size f fields sets top

    abbrev pub v' : Memory
    v' = other.v' w k p I F on n a O d mark size f fields sets top

    abbrev pub v1 : Memory
    v1 = other.v1 w k p I F on n a O d mark size f fields sets top

    abbrev pub q : Private
    q = other.q w k p I F on n a O d mark size f fields sets top

    abbrev pub g : Belongings
    g = belongings_of_part q

    module _ (K : WritesOther M L t S.task S.line) (C : Stores v0 v1 M t h S.task K.object S.line.instr) (mk : StoreMarks v0 v1 M t h S.task K.object S.line.instr C) (gh : BelongingsAfterStore v0 v1 M t h S.task K.object S.line.instr C g) where
      goes_then : L.machine.end ≡ None
      goes_then = ap (λ (y : Ledger). y.machine.end) K.goes ∙ last.mid_goes asks

      end_then : L.end ≡ None
      end_then = ap (λ (y : Ledger). y.end) K.goes ∙ ((last.A asks).end ∙ on)

      -- how the entry splits
      abbrev E : RunsPrivateSteps w.program w.settings l L t k p.fresh
      E = record R { splits = record S { kind = Writing; last = K; apart = last.is_not_private asks; on = λ u. goes_then } }

      -- the workers of tasks are unchanged
      heap_then : (u : ℕ) → heap_of L u ≡ heap_of M u
      heap_then u = ap (λ (y : Ledger). or_fresh (slice_get y.heaps u)) K.goes

      rests_then : (u : ℕ) → Rests L u → Rests l u
      rests_then u r = elim (cases_eq u t) [
        | inl e ↦ none_some (sym (subst (λ z. (heap_of M z).worker ≡ None) e (ap (λ (z : Heap). z.worker) (sym (heap_then u)) ∙ r)) ∙ last.held_mid asks)
        | inr ne ↦ ap (λ o. (or_fresh o).worker) (sym (last.heap_off asks u ne)) ∙ (ap (λ (z : Heap). z.worker) (sym (heap_then u)) ∙ r)
      ]

      same_then : (u : ℕ) → Rests L u → v'.belongings u ≡ v1.belongings u
      same_then u r = sym (resting_is l v'.belongings u (rests_then u r))

      -- and so are the waiting tasks
      at_then : slice_get L.machine.tasks t ≡ Some (record S.task { top = K.frame })
      at_then = ap (λ (y : Ledger). slice_get y.machine.tasks t) K.goes ∙ got_same M.machine.tasks t S.task (record S.task { top = K.frame }) S.at.task

      waits_same : (u : ℕ) → is_waiting (slice_get L.machine.tasks u) ≡ is_waiting (slice_get M.machine.tasks u)
      waits_same u = elim (cases_eq u t) [
        | inl e ↦ ap (λ z. is_waiting (slice_get L.machine.tasks z)) e ∙ (ap is_waiting at_then ∙ (ap is_waiting (sym S.at.task) ∙ ap (λ z. is_waiting (slice_get M.machine.tasks z)) (sym e)))
        | inr ne ↦ ap is_waiting (ap (λ (y : Ledger). slice_get y.machine.tasks u) K.goes ∙ got_other M.machine.tasks t u (record S.task { top = K.frame }) ne)
      ]

      waits_then : (u : ℕ) → is_waiting (slice_get L.machine.tasks u) ≡ true → Rests L u
      waits_then u h' = ap (λ (z : Heap). z.worker) (heap_then u) ∙ R.idle u (waiting_stops (slice_get M.machine.tasks u) (sym (waits_same u) ∙ h'))

      module _ (j : ReservedVecValue EntryValue) where
        abbrev pub w' : SharedValue
        w' = record w { rests = rests; sets = sets; steps = w.steps + (p.fresh + 1); journal = record { items = w.journal.items ++ alone_entry k p ∷ []; room = j.room } }

        enters : Enters w w' (last_entry k p)
        enters = last_enters w w' k p (record { journal = refl; program = refl; settings = refl; halted = refl })

        changes : ChangesRest w w' (other.u w k p I F on n a O) (Some (other.r' w k p I F on n a O d mark size f fields sets top))
        changes = record { rests = refl; there = other.has_slot w k p I F on n a O d mark size f fields sets top; keeps = λ u ne. all_kept w.pool u; free = λ u ne y. y }

        counts : RanCounts w.program (tree_counts_of w) (tree_counts_of w') M L t k p.fresh S.task S.line Writing K
        counts = record { tree = λ u. refl; task_out = λ u. refl; outputs = refl; end = refl; used = refl; steps = last_steps w p }

        all_1 : StandsForAll v1 (tree_counts_of w') L
        all_1 = ran_stands_for w.program w.settings w.journal.items I.form I.legal v0 v1 (tree_counts_of w) (tree_counts_of w') k t p.fresh h free E all_0 own_0 C mk counts

        all_then : StandsForAll v' (tree_counts_of w') L
        all_then =
            subst (λ o. StandsFor v' (tree_counts_of w') (by_end L o)) (sym end_then)
            (stands_for_held v1 v'.belongings L same_then waits_then (tree_counts_of w') (subst (λ o. StandsFor v1 (tree_counts_of w') (by_end L o)) end_then all_1))

        pub written_world : IsSharedValue w'
        written_world =
            entered_world I free enters
            (changed_form I changes (λ r e. subst (IsWell w.pool (other.u w k p I F on n a O)) (same_Some _ r e) (other.well w k p I F on n a O d mark size f fields sets top)) refl many refl refl) all_then

        -- THE PARTS OF OTHERS
        written_others : OthersFit w w' k
        written_others u r ne G =
            part_fits I free enters written_world u r r refl G refl G.form G.measured
            (fits_held v1 v'.belongings L same_then w.program w.settings (part_of w.settings r) R.knows_then.sound goes_then
            (ran_leaves w.program w.settings v0 v1 l L t k p.fresh h E own_0 C (part_of w.settings r) (tasks_apart w k u p r F G ne)
            (fits_held (value_of w) v0.belongings l (λ z y. resting_is l (value_of w).belongings z y) w.program w.settings (part_of w.settings r) R.knows.sound (last.before_goes asks) G.fits)))

        pub written_goes : GoesAlone w w' k p q
        written_goes = record {
          enters = record { journal = refl; program = refl; settings = refl; halted = refl };
          goes = still_goes I free enters written_world on refl;
          fits = part_fits I free enters written_world k p q refl F refl F.form F.measured
              (fits_held v1 v'.belongings L same_then w.program w.settings (part_of w.settings q) R.knows_then.sound goes_then
              (ran_fits_then w.program w.settings v0 v1 l L t k p.fresh h g E own_0 C gh));
          part = refl;
          others = written_others;
        }
