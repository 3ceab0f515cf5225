-- A frame from step to step.
use Rattle.loop_nest_laws.proofs.Common.{◌≡◌, ℕ, ℤ, zero, suc, ◌+◌, ◌-◌, ◌≤◌, Bool, true, false, Option, Some, None, List, length, take, slice_get, ◌⊎◌, inl, inr, refl, ap, sym, subst, ◌∙◌, arith, false≢true, cases_eq, both_ways, same_Some, got_same, Instr, Call, Par, Ret, Line, ProgramText, Name, Object, Frame, TaskStatus, Running, Task, End, MachineState, Goes, StepContext, effect, is_running, is_joined, runs, is_over, waits, result_in, is_waiting, can_step, goes_on, setting, follow, fetched, step, start, parent_of, after, IsTurn, IsForkJoinState, start_is_fork_join_state, run_is_fork_join_state, running_tells, ended_tells, step_taken, step_idle, can_runs, run_next, run_past, goes_tells, Activation, StandsAt, Takes}
use Rattle.loop_nest_laws.proofs.Moves.{Steps, Hands, kept, now, JoinsIn, Moves, stays, goes, calls, gives, forks, ends, resumes, joins, step_moved}

-- an instruction that begins no frame
abbrev pub IsPlain : Instr → Type 0
IsPlain (Call g) = ⊥
IsPlain (Par g h) = ⊥
IsPlain _ = Unit {0}

-- a running task hasn't ended
pub ended_stands : (s : TaskStatus) (r : ℤ × Option Name) → runs s ≡ true → result_in s ≡ Some r → ⊥
ended_stands Running r a b = absurd cc
ended_stands _ r a b = false≢true a

-- a task whose child hasn't joined waits, so it doesn't run
pub hands_tells : (p : ProgramText) (m : MachineState) (u t : ℕ) (x : Task) (r : ℤ × Option Name) → Hands p m u t x r → is_over x.status ≡ false
hands_tells p m u t x r (kept e) = (ended_tells x.status r e).0
hands_tells p m u t x r (now g none e) = (running_tells x.status g.own.run).0

module _ (p : ProgramText) (limit : ℕ) (ts : List ℕ) where
  abbrev pub machine_at : ℕ → MachineState
  machine_at i = after p limit ts i

  pub fork_join_at : (i : ℕ) → IsForkJoinState (machine_at i)
  fork_join_at i = run_is_fork_join_state p (start p limit) (take i ts) (start_is_fork_join_state p limit)

  pub at_next : (i u : ℕ) → slice_get ts i ≡ Some u → machine_at (suc i) ≡ step p (machine_at i) u
  at_next i u e = run_next p (start p limit) ts i u e

  -- THE FATE OF A TASK

  abbrev pub MoveAt : ℕ → ℕ → Task → Task → Type 0
  MoveAt i t x y = (y ≡ x) ⊎ ((u : ℕ) × (slice_get ts i ≡ Some u) × Moves p (machine_at i) u (machine_at (suc i)) t x y)

  move_by : (i t : ℕ) (x : Task) → slice_get (machine_at i).tasks t ≡ Some x → (o : Option ℕ) → slice_get ts i ≡ o → (y : Task) × (slice_get (machine_at (suc i)).tasks t ≡ Some y) × MoveAt i t x y
  move_by i t x is None e = (x, ap (λ (m : MachineState). slice_get m.tasks t) (run_past p (start p limit) ts i e) ∙ is, inl refl)
  move_by i t x is (Some u) e =
      let next = at_next i u e in
      let moved = step_moved p (machine_at i) u (fork_join_at i) t x is in (
        moved.0,
        ap (λ (m : MachineState). slice_get m.tasks t) next ∙ moved.1,
        inr (u, e, subst (λ m. Moves p (machine_at i) u m t x moved.0) (sym next) moved.2),
      )

  pub move_at : (i t : ℕ) (x : Task) → slice_get (machine_at i).tasks t ≡ Some x → (y : Task) × (slice_get (machine_at (suc i)).tasks t ≡ Some y) × MoveAt i t x y
  move_at i t x is = move_by i t x is (slice_get ts i) refl

  -- TURNS

  pub turn_of : (i u t : ℕ) (x : Task) → slice_get ts i ≡ Some u → Steps p (machine_at i) u t x → IsTurn p limit ts i t
  turn_of i u t x e s = record { task = e ∙ ap Some s.same; can = subst (λ k. can_step (machine_at i) k ≡ true) s.same s.can }

  turn_by : (i t : ℕ) (o : Option ℕ) → slice_get ts i ≡ o → IsTurn p limit ts i t ⊎ (IsTurn p limit ts i t → ⊥)
  turn_by i t None e = inr (λ turn. let h : None ≡ Some t = sym e ∙ turn.task in absurd cc)
  turn_by i t (Some u) e = elim (cases_eq u t) [
    | inl same ↦ by_can (can_step (machine_at i) t) refl same
    | inr ne ↦ inr (λ turn. ne (same_Some u t (sym e ∙ turn.task)))
  ]
    where
      by_can : (b : Bool) → can_step (machine_at i) t ≡ b → u ≡ t → IsTurn p limit ts i t ⊎ (IsTurn p limit ts i t → ⊥)
      by_can true c same = inl (record { task = e ∙ ap Some same; can = c })
      by_can false c same = inr (λ turn. both_ways (can_step (machine_at i) t) c turn.can)

  pub turn_or_not : (i t : ℕ) → IsTurn p limit ts i t ⊎ (IsTurn p limit ts i t → ⊥)
  turn_or_not i t = turn_by i t (slice_get ts i) refl

  pub turn_runs : (i t : ℕ) (x : Task) → IsTurn p limit ts i t → slice_get (machine_at i).tasks t ≡ Some x → is_running (Some x) ≡ true
  turn_runs i t x turn is = ap is_running (sym is) ∙ can_runs (machine_at i) t turn.can

  -- a task that a step resumes waited before
  pub joins_waits : (i u t : ℕ) (x : Task) (rl rr : ℤ × Option Name) → slice_get (machine_at i).tasks t ≡ Some x → JoinsIn p (machine_at i) u t x rl rr → waits x.status ≡ true
  joins_waits i u t x rl rr is j =
      let K = fork_join_at i in
      ap is_waiting (sym is)
      ∙ K.tree.waits j.left t (ap parent_of j.il ∙ j.pl) (ap (λ (o : Option Task). is_joined o) j.il ∙ hands_tells p (machine_at i) u j.left j.xl rl j.gl)

  -- a running task is unchanged by a step that isn't its own
  pub unturned : (i t : ℕ) (x : Task) → slice_get (machine_at i).tasks t ≡ Some x → is_running (Some x) ≡ true → (IsTurn p limit ts i t → ⊥) → slice_get (machine_at (suc i)).tasks t ≡ Some x
  unturned i t x is run other = let moved = move_at i t x is in unturned_by_cases moved.0 moved.1 moved.2
    where
      waits_not : waits x.status ≡ true → ⊥
      waits_not h = both_ways (waits x.status) (running_tells x.status run).1 h

      unturned_by_cases : (y : Task) → slice_get (machine_at (suc i)).tasks t ≡ Some y → MoveAt i t x y → slice_get (machine_at (suc i)).tasks t ≡ Some x
      unturned_by_cases y iy (inl e) = iy ∙ ap Some e
      unturned_by_cases y iy (inr (u, e, stays same)) = iy ∙ ap Some same
      unturned_by_cases y iy (inr (u, e, goes s f same)) = absurd (other (turn_of i u t x e s))
      unturned_by_cases y iy (inr (u, e, calls s g same)) = absurd (other (turn_of i u t x e s))
      unturned_by_cases y iy (inr (u, e, gives s f last same)) = absurd (other (turn_of i u t x e s.own))
      unturned_by_cases y iy (inr (u, e, forks s same)) = absurd (other (turn_of i u t x e s))
      unturned_by_cases y iy (inr (u, e, ends s none same)) = absurd (other (turn_of i u t x e s.own))
      unturned_by_cases y iy (inr (u, e, resumes rl rr j same)) = absurd (waits_not (joins_waits i u t x rl rr is j))
      unturned_by_cases y iy (inr (u, e, joins parent xp rl rr r pp ip (kept h) same)) = absurd (ended_stands x.status r run h)
      unturned_by_cases y iy (inr (u, e, joins parent xp rl rr r pp ip (now g none h) same)) = absurd (other (turn_of i u t x e g.own))

  -- ENDS

  ended_idle : (o : Option End) (e : End) (b : Bool) → o ≡ Some e → goes_on o b ≡ false
  ended_idle None e b h = absurd cc
  ended_idle (Some z) e b h = refl

  end_by : (i : ℕ) (e : End) → (machine_at i).end ≡ Some e → (o : Option ℕ) → slice_get ts i ≡ o → machine_at (suc i) ≡ machine_at i
  end_by i e is None h = run_past p (start p limit) ts i h
  end_by i e is (Some u) h = at_next i u h ∙ step_idle p (machine_at i) u (ended_idle (machine_at i).end e (is_running (slice_get (machine_at i).tasks u)) is)

  -- once the machine has ended no task takes a step
  pub ended_over : (n i t : ℕ) (e : End) → (machine_at i).end ≡ Some e → IsTurn p limit ts (n + i) t → ⊥
  ended_over zero i t e is turn = now_over (subst (λ k. IsTurn p limit ts k t) (let h : zero + i ≡ i = omega arith in h) turn)
    where
      no_end : (o : Option End) (e : End) → o ≡ Some e → o ≡ None → ⊥
      no_end o e a b = let h : None ≡ Some e = sym b ∙ a in absurd cc

      now_over : IsTurn p limit ts i t → ⊥
      now_over turn = no_end (machine_at i).end e is (goes_tells (machine_at i).end (is_running (slice_get (machine_at i).tasks t)) turn.can)
  ended_over (suc n) i t e is turn =
      ended_over n (suc i) t e (ap (λ (m : MachineState). m.end) (end_by i e is (slice_get ts i) refl) ∙ is)
      (subst (λ k. IsTurn p limit ts k t) (let e : suc n + i ≡ n + suc i = omega arith in e) turn)

  -- A FRAME ON TOP

  -- the frame a is on top of its running task after i steps: it is f, those frames wait below, and the task has this
  -- depth
  pub record OnTop (a : Activation) (bs : List Frame) (d i : ℕ) (f : Frame) : Type 0 where
    pub x : Task
    pub is : slice_get (machine_at i).tasks a.task ≡ Some x
    pub run : is_running (Some x) ≡ true
    pub top : x.top ≡ f
    pub below : x.below ≡ bs
    pub depth : x.depth ≡ d
    pub stands : StandsAt p limit ts a i
    pub high : length bs ≡ a.height

  pub stands_on : (a : Activation) (i : ℕ) (y : Task) → StandsAt p limit ts a i → slice_get (machine_at (suc i)).tasks a.task ≡ Some y → a.height ≤ length y.below → StandsAt p limit ts a (suc i)
  stands_on a i y s iy le = record {
    begun = let h : a.since ≤ i = s.begun in omega arith;
    high = λ j from to. elim (cases_eq j (suc i)) [
      | inl e ↦ (y, ap (λ k. slice_get (machine_at k).tasks a.task) e ∙ iy, le)
      | inr ne ↦ s.high j from (omega arith)
    ];
  }

  module _ (a : Activation) (bs : List Frame) (d m : ℕ) (w : Takes p limit ts a m) where
    -- the frame's own next step
    pub record NextTurn (i : ℕ) (f : Frame) : Type 0 where
      pub k : ℕ
      pub from : i ≤ k
      pub to : k ≤ m
      pub on : OnTop a bs d k f
      pub turn : IsTurn p limit ts k a.task
      pub none : (j : ℕ) → Takes p limit ts a j → i ≤ j → k ≤ j

    turn_in : (n i : ℕ) (f : Frame) → n + i ≡ m → OnTop a bs d i f → NextTurn i f
    turn_in zero i f e on = record {
      k = i;
      from = omega arith;
      to = omega arith;
      on = on;
      turn = subst (λ k. IsTurn p limit ts k a.task) (let h : m ≡ i = omega arith in h) w.turn;
      none = λ j takes le. le;
    }
    turn_in (suc n) i f e on = elim (turn_or_not i a.task) [
      | inl turn ↦ record { k = i; from = omega arith; to = omega arith; on = on; turn = turn; none = λ j takes le. le }
      | inr other ↦
          let later = unturned i a.task on.x on.is on.run other in
          let same : length on.x.below ≡ a.height = ap length on.below ∙ on.high in
          let next = turn_in n (suc i) f (omega arith) (record {
            x = on.x;
            is = later;
            run = on.run;
            top = on.top;
            below = on.below;
            depth = on.depth;
            stands = stands_on a i on.x on.stands later (omega arith);
            high = on.high;
          }) in
          let from : suc i ≤ next.k = next.from in
          record {
            k = next.k;
            from = omega arith;
            to = next.to;
            on = next.on;
            turn = next.turn;
            none = λ j takes le. next.none j takes (elim (cases_eq i j) [
              | inl same ↦ absurd (other (subst (λ k. IsTurn p limit ts k a.task) (sym same) takes.turn))
              | inr ne ↦ omega arith
            ]);
          }
    ]

    pub next_turn : (i : ℕ) (f : Frame) → i ≤ m → OnTop a bs d i f → NextTurn i f
    next_turn i f le on = turn_in (m - i) i f (omega arith) on

    -- PLAIN STEPS

    -- the frame becomes g by plain steps of its own
    pub record Reaches (i : ℕ) (g : Frame) : Type 0 where
      pub k : ℕ
      pub from : i ≤ k
      pub to : k ≤ m
      pub on : OnTop a bs d k g
      pub plain : (j : ℕ) (v : Takes p limit ts a j) → i ≤ j → IsPlain v.line.instr ⊎ (k ≤ j)

    pub top_reaches : (i : ℕ) (g : Frame) → i ≤ m → OnTop a bs d i g → Reaches i g
    top_reaches i g le on = record { k = i; from = omega arith; to = le; on = on; plain = λ j v from. inr from }

    pub then : (i : ℕ) (g h : Frame) (r : Reaches i g) → Reaches r.k h → Reaches i h
    then i g h r s =
        let one : i ≤ r.k = r.from in
        let two : r.k ≤ s.k = s.from in
        record {
          k = s.k;
          from = omega arith;
          to = s.to;
          on = s.on;
          plain = λ j v from. elim (r.plain j v from) [ inl plain ↦ inl plain | inr le ↦ s.plain j v le ];
        }

    -- what the frame's own steps fetch
    pub fetches : (k : ℕ) (f : Frame) (line : Line) → OnTop a bs d k f → fetched p f ≡ Some line → (v : Takes p limit ts a k) → v.line ≡ line
    fetches k f line on at v =
        let same : v.task ≡ on.x = same_Some v.task on.x (sym v.next.task ∙ on.is) in
        same_Some v.line line (sym v.next.fetched ∙ (ap (λ (x : Task). fetched p x.top) same ∙ (ap (fetched p) on.top ∙ at)))

    -- a step of its own
    abbrev pub takes_of : (k : ℕ) (f : Frame) (line : Line) → OnTop a bs d k f → IsTurn p limit ts k a.task → fetched p f ≡ Some line → Takes p limit ts a k
    takes_of k f line on turn at = record {
      task = on.x;
      line = line;
      turn = turn;
      next = record { task = on.is; fetched = ap (fetched p) on.top ∙ at };
      stands = on.stands;
      on_top = ap length on.below ∙ on.high;
    }

    -- a step that isn't a return isn't the last one
    pub not_last : (k : ℕ) (f : Frame) (line : Line) → OnTop a bs d k f → fetched p f ≡ Some line → w.line.instr ≡ Ret → (line.instr ≡ Ret → ⊥) → k ≤ m → suc k ≤ m
    not_last k f line on at ret other le = elim (cases_eq k m) [
      | inl e ↦ absurd (other (last k e on))
      | inr ne ↦ omega arith
    ]
      where
        last : (k : ℕ) → k ≡ m → OnTop a bs d k f → line.instr ≡ Ret
        last k e on =
            let on' : OnTop a bs d m f = subst (λ j. OnTop a bs d j f) e on in
            ap (λ (l : Line). l.instr) (sym (fetches m f line on' at w)) ∙ ret

    pub goes_to : (i : ℕ) (f : Frame) (line : Line) (g : Frame) → w.line.instr ≡ Ret → i ≤ m → OnTop a bs d i f → fetched p f ≡ Some line → IsPlain line.instr → (line.instr ≡ Ret → ⊥)
        → ((s : StepContext) (store : List (List Object)) → effect s f store line.instr ≡ Goes g store) → Reaches i g
    goes_to i f line g ret le on fetch plain other does =
        let next = next_turn i f le on in
        let x = next.on.x in
        let later : machine_at (suc next.k) ≡ follow (machine_at next.k) a.task x line.number (Goes g (machine_at next.k).store) =
        at_next next.k a.task next.turn.task
        ∙ (step_taken p (machine_at next.k) a.task x line next.turn.can next.on.is (ap (fetched p) next.on.top ∙ fetch)
        ∙ ap (follow (machine_at next.k) a.task x line.number) (ap (λ h. effect (setting (machine_at next.k) a.task x) h (machine_at next.k).store line.instr) next.on.top ∙ does (setting (machine_at next.k) a.task x) (machine_at next.k).store)) in
        let is : slice_get (machine_at (suc next.k)).tasks a.task ≡ Some (record x { top = g }) = ap (λ (m : MachineState). slice_get m.tasks a.task) later ∙ got_same (machine_at next.k).tasks a.task x (record x { top = g }) next.on.is in
        let same : length x.below ≡ a.height = ap length next.on.below ∙ next.on.high in
        let from : i ≤ next.k = next.from in
        record {
          k = suc next.k;
          from = omega arith;
          to = not_last next.k f line next.on fetch ret other next.to;
          on = record {
            x = record x { top = g };
            is = is;
            run = next.on.run;
            top = refl;
            below = next.on.below;
            depth = next.on.depth;
            stands = stands_on a next.k (record x { top = g }) next.on.stands is (omega arith);
            high = next.on.high;
          };
          plain = λ j v from. elim (cases_eq j next.k) [
            | inl e ↦ inl (here_plain next.k next.on j e v)
            | inr ne ↦ inr (let h : next.k ≤ j = next.none j v from in omega arith)
          ];
        }
      where
        here_plain : (k : ℕ) → OnTop a bs d k f → (j : ℕ) → j ≡ k → (v : Takes p limit ts a j) → IsPlain v.line.instr
        here_plain k on j e v =
            let on' : OnTop a bs d j f = subst (λ q. OnTop a bs d q f) (sym e) on in
            subst (λ (l : Line). IsPlain l.instr) (sym (fetches j f line on' fetch v)) plain
