-- A child's last frame returns after its sibling's: what is known of the accounts then.
use Rattle.fork_join_commit.proofs.Common.{◌≡◌, ◌⊎◌, ℕ, ℤ, suc, ◌+◌, ◌-◌, ◌*◌, ◌≤◌, is_none, arith, Bool, true, false, cond, Option, Some, None, List, map, slice_get, slice_set, inl, inr, refl, ap, sym, subst, ◌∙◌, if◌then◌else◌, cases_eq, same_Some, got_other, got_same, Name, MachineState, Waiting as WaitingOf, Task, child_ended_by, is_joined, is_running, is_waiting, join_of, joined_task, result_at, or_same, parents, result_of, resumed, waits_is, wait_there, private_limit, Ledger, heap_of, let_go, or_fresh, CountsFew, ran_tells, task_steps_steps, heap_machine, since_is_few, LeafHeapValue, Level, Ended, state_of as state_in_tree, Rests, rested, EndsLast, Joining, RunsPrivateSteps, with_off, rested_view, Chunk, Belongings, Memory, part_for, with_belongings, reserved_chunks, reserved_units, HoldsRead, TaskIsRead, ChunksHaveNames, BelongingsStand, LiesWithOwner, MemoryStands, WorkerFits, at_belongings, off_belongings, Private, HeapMatchesAccount, Work, Calls, SharedValue, belongings_by, rest_at, HeapForm, counted_from, HasCalls, has_calls, by_chunks, AsksLast, running_parent, where_running}
use Rattle.step_commit.specs.below.hh_model.{Ended as EndedOf, is_left}
use Rattle.step_commit.proofs.below.core_invariant.PartFitsMachine as link
use Rattle.step_commit.proofs.LastStepEntry as last
use Rattle.fork_join_commit.proofs.ChildReturns as steps
use Rattle.fork_join_commit.proofs.ChildReturns.{AsksEnd}
use Rattle.fork_join_commit.proofs.JoinBelongings.{by_since}
use Rattle.fork_join_commit.proofs.JoinTree.{IsOver, by_room, kept_is}
use Rattle.fork_join_commit.proofs.LastReturnKinds.{joins}

module _ {w : SharedValue} {k : ℕ} {p : Private} (asks : AsksEnd w k p) (ended : state_in_tree w.tree (steps.other asks) ≡ Some Ended) where
  open asks use {I, F, at_end}

  abbrev asked : AsksLast w k p
  asked = steps.asked asks

  open (last.names (steps.asked asks)) use {t, l, M, L, v, h, S}

  abbrev pub R : Ledger
  R = rested M t

  abbrev pub vt : Memory
  vt = with_belongings v t h

  abbrev pub x : Task
  x = S.task

  abbrev pub q : ℕ
  q = steps.parent asks

  abbrev pub s : ℕ
  s = steps.other asks

  -- ---- THE MACHINE THEN
  pub other_kept : (r : ℤ × Option Name) × (result_at (slice_get M.machine.tasks s) ≡ Some r)
  other_kept = steps.other_ended asks ended

  other_task : (y : Task) × (slice_get M.machine.tasks s ≡ Some y) × (y.status ≡ EndedOf other_kept.0.0 other_kept.0.1)
  other_task = kept_is (slice_get M.machine.tasks s) other_kept.0 other_kept.1

  above_task : (y : Task) × (slice_get M.machine.tasks q ≡ Some y)
  above_task = wait_there (slice_get M.machine.tasks q) (steps.parent_waits asks)

  abbrev y : Task
  y = other_task.0

  abbrev xp : Task
  xp = above_task.0

  abbrev r : ℤ × Option Name
  r = other_kept.0

  abbrev joined_to : Bool → MachineState
  joined_to b = cond b (join_of M.machine q xp t x y (result_of x.top) r) (join_of M.machine q xp (t - 1) y x r (result_of x.top))

  machine_is : L.machine ≡ joined_to (is_left t)
  machine_is =
      last.machine_then asked
      ∙ (steps.step_is asks
      ∙ (ap (child_ended_by M.machine t x q (result_of x.top)) other_kept.1
      ∙ (ap (λ (o : Option Task). or_same M.machine o (λ above. or_same M.machine (slice_get M.machine.tasks s) (λ z. cond (is_left t) (join_of M.machine q above t x z (result_of x.top) r) (join_of M.machine q above (t - 1) z x r (result_of x.top))))) above_task.1
      ∙ ap (λ (o : Option Task). or_same M.machine o (λ z. cond (is_left t) (join_of M.machine q xp t x z (result_of x.top) r) (join_of M.machine q xp (t - 1) z x r (result_of x.top)))) other_task.1)))

  over_by : (b : Bool) → IsOver (joined_to b) t
  over_by true = record {
    task = joined_task x;
    is = got_other (slice_set (slice_set M.machine.tasks t (joined_task x)) (t + 1) (joined_task y)) q t (resumed xp (result_of x.top) r) (λ e. steps.parent_apart asks (sym e))
        ∙ (got_other (slice_set M.machine.tasks t (joined_task x)) (t + 1) t (joined_task y) (λ e. omega (arith, e)) ∙ got_same M.machine.tasks t x (joined_task x) S.at.task);
    over = refl;
    end = last.mid_goes asked;
  }
  over_by false =
      let low = steps.parent_low asks in
      let back : t - 1 + 1 ≡ t = omega (arith, low) in
      let there : slice_get (slice_set M.machine.tasks (t - 1) (joined_task y)) (t - 1 + 1) ≡ Some x =
      got_other M.machine.tasks (t - 1) (t - 1 + 1) (joined_task y) (λ e. omega (arith, e)) ∙ (ap (slice_get M.machine.tasks) back ∙ S.at.task) in
      let put : slice_get (slice_set (slice_set M.machine.tasks (t - 1) (joined_task y)) (t - 1 + 1) (joined_task x)) t ≡ Some (joined_task x) =
      ap (slice_get (slice_set (slice_set M.machine.tasks (t - 1) (joined_task y)) (t - 1 + 1) (joined_task x))) (sym back) ∙ got_same (slice_set M.machine.tasks (t - 1) (joined_task y)) (t - 1 + 1) x (joined_task x) there in
      record {
        task = joined_task x;
        is = got_other (slice_set (slice_set M.machine.tasks (t - 1) (joined_task y)) (t - 1 + 1) (joined_task x)) q t (resumed xp r (result_of x.top)) (λ e. steps.parent_apart asks (sym e)) ∙ put;
        over = refl;
        end = last.mid_goes asked;
      }

  pub over_then : IsOver L.machine t
  over_then = subst (λ (m : MachineState). IsOver m t) (sym machine_is) (over_by (is_left t))

  pub Q : EndsLast M L t x
  Q = joins w.program M L t x S.line (last.is_not_private asked) (steps.says asks).0 over_then.task over_then.is over_then.end over_then.over S.kind S.last

  -- how the entry splits
  abbrev pub E : RunsPrivateSteps w.program w.settings l L t k p.fresh
  E = record (last.runs_so asked) { splits = record S { kind = Joining; last = Q; apart = last.is_not_private asked; on = λ u. over_then.end } }

  abbrev pub own : WorkerFits w.program w.settings (part_for w.settings t h p.fresh) v l
  own = F.fits

  -- ---- WHO JOINS
  pub machine_rests : R.machine ≡ M.machine
  machine_rests = heap_machine M t let_go

  pub left_par : parents M.machine.tasks Q.left ≡ Some Q.parent
  left_par = ap (λ (m : MachineState). parents m.tasks Q.left) (sym machine_rests) ∙ Q.can.left

  right_par : parents M.machine.tasks (Q.left + 1) ≡ Some Q.parent
  right_par = ap (λ (m : MachineState). parents m.tasks (Q.left + 1)) (sym machine_rests) ∙ Q.can.right

  left_live : is_joined (slice_get M.machine.tasks Q.left) ≡ false
  left_live = ap (λ (m : MachineState). is_joined (slice_get m.tasks Q.left)) (sym machine_rests) ∙ Q.can.left_live

  right_live : is_joined (slice_get M.machine.tasks (Q.left + 1)) ≡ false
  right_live = ap (λ (m : MachineState). is_joined (slice_get m.tasks (Q.left + 1))) (sym machine_rests) ∙ Q.can.right_live

  -- which of the two the task is
  abbrev pub Which : Type 0
  Which =
      ((t ≡ Q.left) × (s ≡ Q.left + 1) × (Q.left_result ≡ result_of x.top) × (result_at (slice_get M.machine.tasks s) ≡ Some Q.right_result))
      ⊎ ((t ≡ Q.left + 1) × (s ≡ Q.left) × (Q.right_result ≡ result_of x.top) × (result_at (slice_get M.machine.tasks s) ≡ Some Q.left_result))

  sibling_is : (u : ℕ) → parents M.machine.tasks u ≡ Some Q.parent → parents M.machine.tasks t ≡ Some Q.parent → is_joined (slice_get M.machine.tasks u) ≡ false → (u ≡ t → ⊥) → s ≡ u
  sibling_is u pu pt live ne = elim ((steps.kept_tree asks).brothers t u Q.parent pt pu (steps.live_mid asks) live) [
    | inl e ↦ absurd (ne e)
    | inr e ↦ sym e
  ]

  pub which : Which
  which = which_by_cases Q.results
    where
      which_by_cases : ((t ≡ Q.left) × (Q.left_result ≡ result_of x.top) × (result_at (slice_get M.machine.tasks (Q.left + 1)) ≡ Some Q.right_result))
          ⊎ ((t ≡ Q.left + 1) × (Q.right_result ≡ result_of x.top) × (result_at (slice_get M.machine.tasks Q.left) ≡ Some Q.left_result)) → Which
      which_by_cases (inl z) =
          let e : s ≡ Q.left + 1 = sibling_is (Q.left + 1) right_par (ap (parents M.machine.tasks) z.0 ∙ left_par) right_live (λ f. omega (arith, f, z.0)) in
          inl (z.0, e, z.1, ap (λ u. result_at (slice_get M.machine.tasks u)) e ∙ z.2)
      which_by_cases (inr z) =
          let e : s ≡ Q.left = sibling_is Q.left left_par (ap (parents M.machine.tasks) z.0 ∙ right_par) left_live (λ f. omega (arith, f, z.0)) in
          inr (z.0, e, z.1, ap (λ u. result_at (slice_get M.machine.tasks u)) e ∙ z.2)

  pub parent_same : Q.parent ≡ q
  parent_same = parent_same_by_cases which
    where
      mid : parents M.machine.tasks t ≡ Some q
      mid = steps.par_mid asks

      parent_same_by_cases : Which → Q.parent ≡ q
      parent_same_by_cases (inl z) = same_Some Q.parent q (sym left_par ∙ (ap (parents M.machine.tasks) (sym z.0) ∙ mid))
      parent_same_by_cases (inr z) = same_Some Q.parent q (sym right_par ∙ (ap (parents M.machine.tasks) (sym z.0) ∙ mid))

  -- the parent runs again
  pub parent_then : running_parent L.machine.tasks t ≡ Some q
  parent_then =
      let par : parents L.machine.tasks t ≡ Some q = Q.parents t ∙ steps.par_mid asks in
      let is : slice_get L.machine.tasks q ≡ Some (resumed Q.above Q.left_result Q.right_result) = ap (slice_get L.machine.tasks) (sym parent_same) ∙ Q.joins.resumed in
      ap (where_running L.machine.tasks) par ∙ ap (λ b. if b then Some q else None) (ap is_running is)

  -- ---- THE ACCOUNTS AT REST
  pub W : MemoryStands vt R
  W = link.W w k p I F (steps.on asks)

  -- the words that a heap counts
  pub since_low : (u : ℕ) → (heap_of R u).since ≤ 1000034 * 1000000256
  since_low u =
      let few : CountsFew w.settings M = (since_is_few w.program w.settings w.journal.items I.form I.legal).1 t p.fresh (E.knows.sound, E.collects) in
      let a = ran_tells w.program w.settings l k t (suc p.fresh) (ap is_none asked.free) in
      let more : M.steps ≡ l.steps + p.fresh = task_steps_steps w.program p.fresh l t in
      let fuel = I.settings.fuel.1 in
      let fresh : p.fresh ≤ private_limit = at_end.few in
      let b : M.steps ≤ 1000000256 = omega (arith, more, a.2, fuel, fresh) in
      let c : (heap_of M u).since ≤ 1000034 * M.steps = few.below u in
      let e : (heap_of R u).since ≡ (heap_of M u).since = elim (cases_eq u t) [
        | inl e ↦ ap (λ i. (heap_of R i).since) e ∙ (rested_view (λ i. i.since) (λ i. refl) M t ∙ ap (λ i. (heap_of M i).since) (sym e))
        | inr ne ↦ ap (λ o. (or_fresh o).since) (with_off M t u let_go ne)
      ] in
      omega (arith, b, c, e)

  abbrev pub own_belongings : vt.belongings t ≡ h
  own_belongings = at_belongings v t h

  -- it is in no collection
  pub own_here : vt.belongings t ≡ belongings_by p.heap p.view p.allocations (Calls p.frames)
  own_here = own_belongings ∙ ap (λ o. let z : Belongings = record (belongings_by p.heap p.view p.allocations (Calls p.frames)) { begun = o } in z) (last.none asked)

  abbrev pub off : (u : ℕ) → (u ≡ t → ⊥) → vt.belongings u ≡ v.belongings u
  off = off_belongings v t h

  -- a heap is counted as its account says
  pub counted_belongings : (u n : ℕ) (g : LeafHeapValue) (view : List Level) (z : Work) → vt.belongings u ≡ belongings_by g view n z → Rests R u → HeapForm g → HeapMatchesAccount g (heap_of R u)
  counted_belongings u n g view z e rests form =
      let H : BelongingsStand vt R u = W.belongings u rests in
      counted_from g (heap_of R u) form
      (subst (λ ks. ChunksHaveNames ks (heap_of R u)) (ap (λ (i : Belongings). i.chunks) e ∙ by_chunks g view n z) H.names)
      (sym (by_room g view n z) ∙ (ap (λ (i : Belongings). i.room) (sym e) ∙ H.room))
      (sym (by_since g view n z) ∙ (ap (λ (i : Belongings). i.since) (sym e) ∙ H.since))
      (subst (λ (ks : List Chunk). map (λ (c : Chunk). c.units) (reserved_chunks ks) ≡ reserved_units (heap_of R u).reserved) (ap (λ (i : Belongings). i.chunks) e ∙ by_chunks g view n z) H.laid.reserved)

  pub since_belongings : (u n : ℕ) (g : LeafHeapValue) (view : List Level) (z : Work) → vt.belongings u ≡ belongings_by g view n z → Rests R u → g.since ≡ (heap_of R u).since
  since_belongings u n g view z e rests = sym (by_since g view n z) ∙ (ap (λ (i : Belongings). i.since) (sym e) ∙ (W.belongings u rests).since)

  -- the parent's frames are in the value
  pub rests_parent : Rests R q
  rests_parent = subst (Rests R) parent_same Q.can.rests

  above_status : xp.status ≡ WaitingOf
  above_status = waits_is xp.status (ap is_waiting (sym above_task.1) ∙ steps.parent_waits asks)

  pub waiting_parent : (y : Task) × (slice_get l.machine.tasks q ≡ Some y) × (y.status ≡ WaitingOf)
  waiting_parent = (xp, sym (steps.same_then asks q (steps.parent_apart asks)) ∙ above_task.1, above_status)

  pub parent_calls : HasCalls (rest_at w.rests q)
  parent_calls =
      let held : TaskIsRead (LiesWithOwner vt R) (vt.belongings q) xp = W.tasks q xp rests_parent (ap (λ (m : MachineState). slice_get m.tasks q) machine_rests ∙ above_task.1) in
      has_calls (LiesWithOwner vt R) (rest_at w.rests q) xp
      (subst (HoldsRead (LiesWithOwner vt R) (v.belongings q) xp) above_status (subst (λ (i : Belongings). TaskIsRead (LiesWithOwner vt R) i xp) (off q (steps.parent_apart asks)) held))
