-- The last step of a frame.
use Rattle.loop_nest_laws.proofs.Common.{◌≡◌, ℕ, ℤ, zero, suc, ◌+◌, ◌-◌, ◌<◌, ◌≤◌, Bool, true, false, cond, Option, Some, None, List, [], ◌∷◌, length, slice_get, ◌⊎◌, inl, inr, refl, ap, sym, subst, ◌∙◌, arith, cases_eq, both_ways, cond-true, cond-false, same_Some, got_same, got_within, got_some, Ret, Line, ProgramText, Name, Frame, TaskStatus, Task, End, Done, MachineState, effect, runs, waits, is_left, sibling, parents, parent_of, result_of, setting, follow, fetched, last_of, front_of, back_in, last_return, returned_to, child_ended_by, result_at, ended_task, joined_task, resumed, join_of, or_same, IsTurn, three_left, three_right, step_taken, Activation, Takes}
use Rattle.loop_nest_laws.proofs.Moves.{stays, goes, calls, gives, forks, ends, resumes, joins}
use Rattle.loop_nest_laws.proofs.Turns.{machine_at, at_next, fork_join_at, move_at, MoveAt, turn_runs, ended_over, joins_waits, OnTop, next_turn, fetches, IsPlain}

front_shorter : (fs : List Frame) (q : Frame) → last_of fs ≡ Some q → length (front_of fs) < length fs
front_shorter [] q e = absurd cc
front_shorter (f ∷ []) q e = omega arith
front_shorter (f ∷ g ∷ fs) q e = let h = front_shorter (g ∷ fs) q e in omega arith

abbrev IsAsleep : TaskStatus → Type 0
IsAsleep s = (runs s ≡ false) × (waits s ≡ false)

-- once a task has ended it never runs
module _ (p : ProgramText) (limit : ℕ) (ts : List ℕ) where
  pub record Sleeps (t j : ℕ) : Type 0 where
    pub y : Task
    pub is : slice_get (machine_at p limit ts j).tasks t ≡ Some y
    pub still : IsAsleep y.status

  sleep_step : (t j : ℕ) → Sleeps t j → Sleeps t (suc j)
  sleep_step t j s = let moved = move_at p limit ts j t s.y s.is in sleep_step_by_cases moved.0 moved.1 moved.2
    where
      not_running : {A : Type 0} → runs s.y.status ≡ true → A
      not_running h = absurd (both_ways (runs s.y.status) s.still.0 h)

      sleep_step_by_cases : (y : Task) → slice_get (machine_at p limit ts (suc j)).tasks t ≡ Some y → MoveAt p limit ts j t s.y y → Sleeps t (suc j)
      sleep_step_by_cases y iy (inl same) = record { y = s.y; is = iy ∙ ap Some same; still = s.still }
      sleep_step_by_cases y iy (inr (u, e, stays same)) = record { y = s.y; is = iy ∙ ap Some same; still = s.still }
      sleep_step_by_cases y iy (inr (u, e, goes o f same)) = not_running o.run
      sleep_step_by_cases y iy (inr (u, e, calls o g same)) = not_running o.run
      sleep_step_by_cases y iy (inr (u, e, gives o f last same)) = not_running o.own.run
      sleep_step_by_cases y iy (inr (u, e, forks o same)) = not_running o.run
      sleep_step_by_cases y iy (inr (u, e, ends o empty same)) = not_running o.own.run
      sleep_step_by_cases y iy (inr (u, e, resumes rl rr q same)) = absurd (both_ways (waits s.y.status) s.still.1 (joins_waits p limit ts j u t s.y rl rr s.is q))
      sleep_step_by_cases y iy (inr (u, e, joins parent xp rl rr r pp ip hands same)) = record { y = joined_task s.y; is = iy ∙ ap Some same; still = (refl, refl) }

  pub sleeps_on : (n t j : ℕ) → Sleeps t j → IsTurn p limit ts (n + j) t → ⊥
  sleeps_on zero t j s turn =
      let turn' : IsTurn p limit ts j t = subst (λ k. IsTurn p limit ts k t) (let e : zero + j ≡ j = omega arith in e) turn in
      both_ways (runs s.y.status) s.still.0 (turn_runs p limit ts j t s.y turn' s.is)
  sleeps_on (suc n) t j s turn = sleeps_on n t (suc j) (sleep_step t j s) (subst (λ k. IsTurn p limit ts k t) (let e : suc n + j ≡ n + suc j = omega arith in e) turn)

  module _ (a : Activation) (bs : List Frame) (d k : ℕ) (f : Frame) (line : Line) (on : OnTop p limit ts a bs d k f) (turn : IsTurn p limit ts k a.task) (fetch : fetched p f ≡ Some line) (is_ret : line.instr ≡ Ret) where
    abbrev m0 : MachineState
    m0 = machine_at p limit ts k

    abbrev x : Task
    x = on.x

    -- the frame is gone after its return
    abbrev Gone : Type 0
    Gone = ((y : Task) × (slice_get (machine_at p limit ts (suc k)).tasks a.task ≡ Some y) × (length y.below < length bs)) ⊎ (Sleeps a.task (suc k) ⊎ ((e : End) × ((machine_at p limit ts (suc k)).end ≡ Some e)))

    sleeps : (y : Task) → slice_get (machine_at p limit ts (suc k)).tasks a.task ≡ Some y → IsAsleep y.status → Gone
    sleeps y iy still = inr (inl (record { y = y; is = iy; still = still }))

    taken : machine_at p limit ts (suc k) ≡ returned_to m0 a.task x (last_of x.below)
    taken =
        at_next p limit ts k a.task turn.task
        ∙ (step_taken p m0 a.task x line turn.can on.is (ap (fetched p) on.top ∙ fetch)
        ∙ ap (λ instr. follow m0 a.task x line.number (effect (setting m0 a.task x) x.top m0.store instr)) is_ret)

    is_at : (q : MachineState) (y : Task) → machine_at p limit ts (suc k) ≡ q → slice_get q.tasks a.task ≡ Some y → slice_get (machine_at p limit ts (suc k)).tasks a.task ≡ Some y
    is_at q y e h = ap (λ (z : MachineState). slice_get z.tasks a.task) e ∙ h

    sides : (parent : ℕ) (xp z : Task) (other : ℤ × Option Name) → x.parent ≡ Some parent → slice_get m0.tasks parent ≡ Some xp → slice_get m0.tasks (sibling a.task) ≡ Some z
        → (b : Bool) → is_left a.task ≡ b → machine_at p limit ts (suc k) ≡ cond b (join_of m0 parent xp a.task x z (result_of x.top) other) (join_of m0 parent xp (a.task - 1) z x other (result_of x.top)) → Gone
    sides parent xp z other pp ip iz true side e =
        let tree = (fork_join_at p limit ts k).tree in
        let sib : sibling a.task ≡ a.task + 1 = cond-true (is_left a.task) (a.task + 1) (a.task - 1) side in
        let par : parents m0.tasks a.task ≡ Some parent = ap parent_of on.is ∙ pp in
        sleeps (joined_task x)
        (is_at _ (joined_task x) e (three_left m0.tasks a.task parent x z xp (joined_task x) (joined_task z) (resumed xp (result_of x.top) other) on.is (ap (slice_get m0.tasks) (sym sib) ∙ iz) ip (tree.low a.task parent par)))
        (refl, refl)
    sides parent xp z other pp ip iz false side e =
        let tree = (fork_join_at p limit ts k).tree in
        let sib : sibling a.task ≡ a.task - 1 = cond-false (is_left a.task) (a.task + 1) (a.task - 1) side in
        let par : parents m0.tasks a.task ≡ Some parent = ap parent_of on.is ∙ pp in
        let lt : parent < a.task = tree.low a.task parent par in
        let lt2 : parent < sibling a.task = tree.low (sibling a.task) parent (tree.pairs a.task parent par) in
        let back : a.task - 1 + 1 ≡ a.task = omega arith in
        sleeps (joined_task x)
        (is_at _ (joined_task x) e (ap (slice_get (join_of m0 parent xp (a.task - 1) z x other (result_of x.top)).tasks) (sym back)
        ∙ three_right m0.tasks (a.task - 1) parent z x xp (joined_task z) (joined_task x) (resumed xp other (result_of x.top)) (ap (slice_get m0.tasks) (sym sib) ∙ iz) (ap (slice_get m0.tasks) back ∙ on.is) ip (omega arith)))
        (refl, refl)

    by_sibling : (parent : ℕ) (xp : Task) (other : ℤ × Option Name) → x.parent ≡ Some parent → slice_get m0.tasks parent ≡ Some xp → (o : Option Task) → slice_get m0.tasks (sibling a.task) ≡ o → result_at o ≡ Some other
        → machine_at p limit ts (suc k) ≡ or_same m0 o (λ y. cond (is_left a.task) (join_of m0 parent xp a.task x y (result_of x.top) other) (join_of m0 parent xp (a.task - 1) y x other (result_of x.top))) → Gone
    by_sibling parent xp other pp ip None iz h e = absurd cc
    by_sibling parent xp other pp ip (Some z) iz h e = sides parent xp z other pp ip iz (is_left a.task) refl e

    by_kept : (parent : ℕ) → x.parent ≡ Some parent → (o : Option (ℤ × Option Name)) → result_at (slice_get m0.tasks (sibling a.task)) ≡ o → machine_at p limit ts (suc k) ≡ child_ended_by m0 a.task x parent (result_of x.top) o → Gone
    by_kept parent pp None h e = sleeps (ended_task x (result_of x.top)) (is_at _ (ended_task x (result_of x.top)) e (got_same m0.tasks a.task x (ended_task x (result_of x.top)) on.is)) (refl, refl)
    by_kept parent pp (Some other) h e =
        let tree = (fork_join_at p limit ts k).tree in
        let lt : parent < a.task = tree.low a.task parent (ap parent_of on.is ∙ pp) in
        let within : a.task < length m0.tasks = got_within m0.tasks a.task x on.is in
        let parent_is = got_some m0.tasks parent (omega arith) in
        by_sibling parent parent_is.0 other pp parent_is.1 (slice_get m0.tasks (sibling a.task)) refl h
        (e ∙ ap (λ o. or_same m0 o (λ xp. or_same m0 (slice_get m0.tasks (sibling a.task)) (λ y. cond (is_left a.task) (join_of m0 parent xp a.task x y (result_of x.top) other) (join_of m0 parent xp (a.task - 1) y x other (result_of x.top))))) parent_is.1)

    by_parent : (o : Option ℕ) → x.parent ≡ o → machine_at p limit ts (suc k) ≡ last_return m0 a.task x o → Gone
    by_parent None pp e = inr (inr (Done, ap (λ (z : MachineState). z.end) e))
    by_parent (Some parent) pp e = by_kept parent pp (result_at (slice_get m0.tasks (sibling a.task))) refl e

    by_last : (o : Option Frame) → last_of x.below ≡ o → machine_at p limit ts (suc k) ≡ returned_to m0 a.task x o → Gone
    by_last None h e = by_parent x.parent refl e
    by_last (Some q) h e =
        inl (
          record x { top = back_in q x.top; below = front_of x.below },
          is_at _ (record x { top = back_in q x.top; below = front_of x.below }) e (got_same m0.tasks a.task x (record x { top = back_in q x.top; below = front_of x.below }) on.is),
          (let lt : length (front_of x.below) < length x.below = front_shorter x.below q h in let same : length x.below ≡ length bs = ap length on.below in omega arith),
        )

    gone : Gone
    gone = by_last (last_of x.below) refl taken

    -- so it takes no later step
    pub no_later : (j : ℕ) → Takes p limit ts a j → k < j → ⊥
    no_later j v lt = elim gone [
      | inl low ↦
          let since : a.since ≤ k = on.stands.begun in
          let s = v.stands.high (suc k) (omega arith) (omega arith) in
          let same : low.0 ≡ s.0 = same_Some low.0 s.0 (sym low.1 ∙ s.1) in
          let le : a.height ≤ length s.0.below = s.2 in
          let shorter : length low.0.below < length bs = low.2 in
          omega (arith, ap (λ (z : Task). length z.below) same, on.high)
      | inr more ↦ elim more [
        | inl s ↦ sleeps_on (j - suc k) a.task (suc k) s (subst (λ z. IsTurn p limit ts z a.task) (let e : j ≡ j - suc k + suc k = omega arith in e) v.turn)
        | inr e ↦ ended_over p limit ts (j - suc k) (suc k) a.task e.0 e.1 (subst (λ z. IsTurn p limit ts z a.task) (let e : j ≡ j - suc k + suc k = omega arith in e) v.turn)
      ]
    ]

  -- a frame's return is its last step
  module _ (a : Activation) (bs : List Frame) (d m : ℕ) (w : Takes p limit ts a m) where
    pub record IsLast (i : ℕ) (f : Frame) : Type 0 where
      pub top : w.task.top ≡ f
      pub plain : (j : ℕ) (v : Takes p limit ts a j) → i ≤ j → IsPlain v.line.instr

    pub comes_to_last : (i : ℕ) (f : Frame) (line : Line) → i ≤ m → OnTop p limit ts a bs d i f → fetched p f ≡ Some line → line.instr ≡ Ret → IsLast i f
    comes_to_last i f line le on fetch is_ret =
        let next = next_turn p limit ts a bs d m w i f le on in
        let to : next.k ≤ m = next.to in
        let later = no_later a bs d next.k f line next.on next.turn fetch is_ret in
        record {
          top = top_at next.k next.on (elim (cases_eq next.k m) [ inl e ↦ e | inr ne ↦ absurd (later m w (omega arith)) ]);
          plain = λ j v from.
              let ge : next.k ≤ j = next.none j v from in
              plain_at next.k next.on j (elim (cases_eq j next.k) [ inl e ↦ e | inr ne ↦ absurd (later j v (omega arith)) ]) v;
        }
      where
        top_at : (k : ℕ) → OnTop p limit ts a bs d k f → k ≡ m → w.task.top ≡ f
        top_at k on e =
            let on' : OnTop p limit ts a bs d m f = subst (λ q. OnTop p limit ts a bs d q f) e on in
            ap (λ (z : Task). z.top) (same_Some w.task on'.x (sym w.next.task ∙ on'.is)) ∙ on'.top

        plain_at : (k : ℕ) → OnTop p limit ts a bs d k f → (j : ℕ) → j ≡ k → (v : Takes p limit ts a j) → IsPlain v.line.instr
        plain_at k on j e v =
            let on' : OnTop p limit ts a bs d j f = subst (λ q. OnTop p limit ts a bs d q f) (sym e) on in
            subst IsPlain (sym (ap (λ (l : Line). l.instr) (fetches p limit ts a bs d m w j f line on' fetch v) ∙ is_ret)) tt
