-- A frame that calls another, until that one returns.
use Rattle.loop_nest_laws.proofs.Common.{◌≡◌, ℕ, ℤ, zero, suc, ◌+◌, ◌-◌, ◌≤◌, Bool, true, false, cond, Option, Some, None, List, [], ◌∷◌, ◌++◌, length, slice_get, nat_lt, ◌⊎◌, inl, inr, refl, ap, sym, subst, ◌∙◌, arith, length-append, append_assoc, cases_eq, cases_lt, same_Some, got_same, Call, Ret, Line, ProgramText, Name, Frame, Task, Depth, Trapped, MachineState, effect, onward, int_in, ref_in, with_int, with_ref, is_running, result_in, setting, follow, fetched, last_of, front_of, back_in, entry_frame, ended_by, with_task, frame_limit, IsTurn, last_push, front_push, step_taken, Activation, StandsAt, Takes, ReturnsBy, called_frame}
use Rattle.loop_nest_laws.proofs.Moves.{Gives, kept, now, stays, goes, calls, gives, forks, ends, resumes, joins}
use Rattle.loop_nest_laws.proofs.Turns.{machine_at, at_next, move_at, MoveAt, turn_of, ended_stands, ended_over, OnTop, next_turn, takes_of, not_last, fetches}

front_append : (xs ys : List Frame) (z : Frame) → front_of (xs ++ z ∷ ys) ≡ xs ++ front_of (z ∷ ys)
front_append [] ys z = refl
front_append (x ∷ []) ys z = refl
front_append (x ∷ y ∷ xs) ys z = ap (λ zs. x ∷ zs) (front_append (y ∷ xs) ys z)

last_none : (xs ys : List Frame) (z : Frame) → last_of (xs ++ z ∷ ys) ≡ None → ⊥
last_none [] [] z e = absurd cc
last_none [] (y ∷ ys) z e = last_none [] ys y e
last_none (x ∷ []) ys z e = last_none [] ys z e
last_none (x ∷ y ∷ xs) ys z e = last_none (y ∷ xs) ys z e

-- a frame q waits in a task t above these frames
module _ (p : ProgramText) (limit : ℕ) (ts : List ℕ) (t : ℕ) (bs : List Frame) (d : ℕ) (q : Frame) where
  -- the frame q waits for a return
  pub record Above (i : ℕ) : Type 0 where
    pub x : Task
    pub is : slice_get (machine_at p limit ts i).tasks t ≡ Some x
    pub unended : result_in x.status ≡ None
    pub more : List Frame
    pub below : x.below ≡ bs ++ q ∷ more
    pub depth : x.depth ≡ d

  -- the step after the first i returns to it
  pub record Back (i : ℕ) : Type 0 where
    pub x : Task
    pub is : slice_get (machine_at p limit ts i).tasks t ≡ Some x
    pub line : Line
    pub turn : IsTurn p limit ts i t
    pub at_line : fetched p x.top ≡ Some line
    pub ret : line.instr ≡ Ret
    pub run : is_running (Some x) ≡ true
    pub below : x.below ≡ bs ++ q ∷ []
    pub depth : x.depth ≡ d
    pub later : slice_get (machine_at p limit ts (suc i)).tasks t ≡ Some (record x { top = back_in q x.top; below = bs })

  module _ (i : ℕ) (s : Above i) where
    not_none : last_of s.x.below ≡ None → ⊥
    not_none e = last_none bs s.more q (ap last_of (sym s.below) ∙ e)

    given : (u : ℕ) → slice_get ts i ≡ Some u → Gives p (machine_at p limit ts i) u t s.x → (f : Frame) → last_of s.x.below ≡ Some f → (y : Task) → slice_get (machine_at p limit ts (suc i)).tasks t ≡ Some y
        → y ≡ record s.x { top = back_in f s.x.top; below = front_of s.x.below } → (more : List Frame) → s.x.below ≡ bs ++ q ∷ more → Above (suc i) ⊎ Back i
    given u e g f last y iy same [] below =
        let is_q : f ≡ q = same_Some f q (sym last ∙ (ap last_of below ∙ last_push bs q)) in
        inr (record {
          x = s.x;
          is = s.is;
          line = g.line;
          turn = turn_of p limit ts i u t s.x e g.own;
          at_line = g.at;
          ret = g.ret;
          run = g.own.run;
          below = below;
          depth = s.depth;
          later = iy ∙ ap Some (same ∙ (ap (λ fs. record s.x { top = back_in f s.x.top; below = fs }) (ap front_of below ∙ front_push bs q) ∙ ap (λ z. record s.x { top = back_in z s.x.top; below = bs }) is_q));
        })
    given u e g f last y iy same (z ∷ more) below =
        inl (record {
          x = y;
          is = iy;
          unended = ap (λ (z : Task). result_in z.status) same ∙ s.unended;
          more = front_of (z ∷ more);
          below = ap (λ (z : Task). z.below) same ∙ (ap front_of below ∙ front_append bs (z ∷ more) q);
          depth = ap (λ (z : Task). z.depth) same ∙ s.depth;
        })

    above_by_move : (y : Task) → slice_get (machine_at p limit ts (suc i)).tasks t ≡ Some y → MoveAt p limit ts i t s.x y → Above (suc i) ⊎ Back i
    above_by_move y iy (inl same) = inl (record { x = s.x; is = iy ∙ ap Some same; unended = s.unended; more = s.more; below = s.below; depth = s.depth })
    above_by_move y iy (inr (u, e, stays same)) = inl (record { x = s.x; is = iy ∙ ap Some same; unended = s.unended; more = s.more; below = s.below; depth = s.depth })
    above_by_move y iy (inr (u, e, goes o f same)) = inl (record { x = record s.x { top = f }; is = iy ∙ ap Some same; unended = s.unended; more = s.more; below = s.below; depth = s.depth })
    above_by_move y iy (inr (u, e, calls o g same)) =
        inl (record {
          x = record s.x { top = entry_frame g s.x.top; below = s.x.below ++ onward s.x.top ∷ [] };
          is = iy ∙ ap Some same;
          unended = s.unended;
          more = s.more ++ onward s.x.top ∷ [];
          below = ap (λ fs. fs ++ onward s.x.top ∷ []) s.below ∙ append_assoc bs (q ∷ s.more) (onward s.x.top ∷ []);
          depth = s.depth;
        })
    above_by_move y iy (inr (u, e, gives g f last same)) = given u e g f last y iy same s.more s.below
    above_by_move y iy (inr (u, e, forks o same)) = inl (record { x = y; is = iy; unended = ap (λ (z : Task). result_in z.status) same; more = s.more; below = ap (λ (z : Task). z.below) same ∙ s.below; depth = ap (λ (z : Task). z.depth) same ∙ s.depth })
    above_by_move y iy (inr (u, e, ends g none same)) = absurd (not_none none)
    above_by_move y iy (inr (u, e, resumes rl rr j same)) = inl (record { x = y; is = iy; unended = ap (λ (z : Task). result_in z.status) same; more = s.more; below = ap (λ (z : Task). z.below) same ∙ s.below; depth = ap (λ (z : Task). z.depth) same ∙ s.depth })
    above_by_move y iy (inr (u, e, joins parent xp rl rr r pp ip (kept h) same)) = let two : None ≡ Some r = sym s.unended ∙ h in absurd cc
    above_by_move y iy (inr (u, e, joins parent xp rl rr r pp ip (now g none h) same)) = absurd (not_none none)

    pub above_step : Above (suc i) ⊎ Back i
    above_step = let moved = move_at p limit ts i t s.x s.is in above_by_move moved.0 moved.1 moved.2

module _ (p : ProgramText) (limit : ℕ) (ts : List ℕ) (a : Activation) (bs : List Frame) (d m : ℕ) (w : Takes p limit ts a m) (is_ret : w.line.instr ≡ Ret) (high : length bs ≡ a.height) where
  module _ (q : Frame) where
    abbrev pub Over : ℕ → Type 0
    Over i = Above p limit ts a.task bs d q i

    -- until the return
    pub record Called (i : ℕ) : Type 0 where
      pub e : ℕ
      pub from : i ≤ e
      pub to : suc e ≤ m
      pub above : (j : ℕ) → i ≤ j → j ≤ e → Over j
      pub back : Back p limit ts a.task bs d q e

    not_at_last : (i : ℕ) → i ≡ m → Over i → ⊥
    not_at_last i e s =
        let s' : Over m = subst Over e s in
        let same : w.task ≡ s'.x = same_Some w.task s'.x (sym w.next.task ∙ s'.is) in
        let one : length s'.x.below ≡ a.height = ap (λ (t : Task). length t.below) (sym same) ∙ w.on_top in
        let two : length s'.x.below ≡ length bs + length (q ∷ s'.more) = ap length s'.below ∙ length-append bs (q ∷ s'.more) in
        let three : length (q ∷ s'.more) ≡ suc (length s'.more) = refl in
        omega (arith, high)

    find : (n i : ℕ) → n + i ≡ m → Over i → Called i
    find zero i e s = absurd (not_at_last i (omega arith) s)
    find (suc n) i e s = elim (above_step p limit ts a.task bs d q i s) [
      | inl next ↦
          let c = find n (suc i) (omega arith) next in
          let from : suc i ≤ c.e = c.from in
          record {
            e = c.e;
            from = omega arith;
            to = c.to;
            above = λ j le to. elim (cases_eq i j) [ inl same ↦ subst Over same s | inr ne ↦ c.above j (omega arith) to ];
            back = c.back;
          }
      | inr back ↦ record {
        e = i;
        from = omega arith;
        to = omega arith;
        above = λ j le to. subst Over (let h : i ≡ j = omega arith in h) s;
        back = back;
      }
    ]

    pub until_back : (i : ℕ) → i ≤ m → Over i → Called i
    until_back i le s = find (m - i) i (omega arith) s

  -- a frame to which this was returned
  abbrev pub handed : Frame → ℤ → Option Name → Frame
  handed f k r = with_ref (with_int f 0 k) 0 r

  -- the frame calls g, which returns to it
  pub record CallsAndGoesOn (i : ℕ) (f : Frame) (g : ℕ) : Type 0 where
    pub k : ℕ
    pub from : i ≤ k
    pub takes : Takes p limit ts a k
    pub calls : takes.line.instr ≡ Call g
    pub top : takes.task.top ≡ f
    pub inner : OnTop p limit ts (called_frame a k) (bs ++ onward f ∷ []) d (suc k) (entry_frame g f)
    pub e : ℕ
    pub number : ℤ
    pub ref : Option Name
    pub back : ReturnsBy p limit ts (called_frame a k) e number ref
    pub later : suc k ≤ e
    pub to : suc e ≤ m
    pub on : OnTop p limit ts a bs d (suc e) (handed (onward f) number ref)
    pub only : (j : ℕ) (v : Takes p limit ts a j) → i ≤ j → ((j ≡ k) × (v.line.instr ≡ Call g)) ⊎ (suc e ≤ j)

  module _ (i : ℕ) (f : Frame) (g : ℕ) (line : Line) (le : i ≤ m) (on0 : OnTop p limit ts a bs d i f) (fetch : fetched p f ≡ Some line) (is_call : line.instr ≡ Call g) where
    not_ret : line.instr ≡ Ret → ⊥
    not_ret h = let two : Call g ≡ Ret = sym is_call ∙ h in absurd cc

    module _ (k : ℕ) (from : i ≤ k) (to : k ≤ m) (on : OnTop p limit ts a bs d k f) (turn : IsTurn p limit ts k a.task) (none : (j : ℕ) → Takes p limit ts a j → i ≤ j → k ≤ j) where
      abbrev b : Activation
      b = called_frame a k

      abbrev y : Task
      y = record on.x { top = entry_frame g on.x.top; below = on.x.below ++ onward on.x.top ∷ [] }

      further : suc k ≤ m
      further = not_last p limit ts a bs d m w k f line on fetch is_ret not_ret to

      taken : machine_at p limit ts (suc k) ≡ cond (nat_lt (length on.x.below + 1) frame_limit) (with_task (machine_at p limit ts k) a.task y) (ended_by (machine_at p limit ts k) (Trapped Depth a.task line.number))
      taken =
          at_next p limit ts k a.task turn.task
          ∙ (step_taken p (machine_at p limit ts k) a.task on.x line turn.can on.is (ap (fetched p) on.top ∙ fetch)
          ∙ ap (λ instr. follow (machine_at p limit ts k) a.task on.x line.number (effect (setting (machine_at p limit ts k) a.task on.x) on.x.top (machine_at p limit ts k).store instr)) is_call)

      by_limit : (c : Bool) → nat_lt (length on.x.below + 1) frame_limit ≡ c → slice_get (machine_at p limit ts (suc k)).tasks a.task ≡ Some y
      by_limit true c =
          ap (λ (q : MachineState). slice_get q.tasks a.task) (taken ∙ ap (λ z. cond z (with_task (machine_at p limit ts k) a.task y) (ended_by (machine_at p limit ts k) (Trapped Depth a.task line.number))) c)
          ∙ got_same (machine_at p limit ts k).tasks a.task on.x y on.is
      by_limit false c =
          absurd (ended_over p limit ts (m - suc k) (suc k) a.task (Trapped Depth a.task line.number)
          (ap (λ (q : MachineState). q.end) (taken ∙ ap (λ z. cond z (with_task (machine_at p limit ts k) a.task y) (ended_by (machine_at p limit ts k) (Trapped Depth a.task line.number))) c))
          (subst (λ z. IsTurn p limit ts z a.task) (let h : m ≡ m - suc k + suc k = omega (arith, further) in h) w.turn))

      begun : slice_get (machine_at p limit ts (suc k)).tasks a.task ≡ Some y
      begun = by_limit (nat_lt (length on.x.below + 1) frame_limit) refl

      below_y : y.below ≡ bs ++ onward f ∷ []
      below_y = ap (λ fs. fs ++ onward on.x.top ∷ []) on.below ∙ ap (λ h. bs ++ onward h ∷ []) on.top

      unended : (o : Option (ℤ × Option Name)) → result_in on.x.status ≡ o → result_in on.x.status ≡ None
      unended None e = e
      unended (Some r) e = absurd (ended_stands on.x.status r on.run e)

      above : Over (onward f) (suc k)
      above = record { x = y; is = begun; unended = unended (result_in on.x.status) refl; more = []; below = below_y; depth = on.depth }

      returns : Called (onward f) (suc k)
      returns = until_back (onward f) (suc k) further above

      long : length (bs ++ onward f ∷ []) ≡ a.height + 1
      long = let h : length (bs ++ onward f ∷ []) ≡ length bs + 1 = length-append bs (onward f ∷ []) in omega (arith, high)

      stands_from : (e : ℕ) → suc k ≤ e → ((j : ℕ) → suc k ≤ j → j ≤ e → Over (onward f) j) → StandsAt p limit ts b e
      stands_from e le above = record {
        begun = le;
        high = λ j from to.
            let s = above j from to in
            let h : length s.x.below ≡ length bs + length (onward f ∷ s.more) = ap length s.below ∙ length-append bs (onward f ∷ s.more) in
            let h2 : length (onward f ∷ s.more) ≡ suc (length s.more) = refl in
            (s.x, s.is, omega (arith, high));
      }

      outer : OnTop p limit ts a bs d (suc returns.e) (handed (onward f) (int_in returns.back.x.top 0) (ref_in returns.back.x.top 0))
      outer =
          let back = returns.back in
          let from2 : suc k ≤ returns.e = returns.from in
          record {
            x = record back.x { top = back_in (onward f) back.x.top; below = bs };
            is = back.later;
            run = back.run;
            top = refl;
            below = refl;
            depth = back.depth;
            stands = record {
              begun = let h : a.since ≤ k = on.stands.begun in omega arith;
              high = λ j from to. elim (cases_lt k j) [
                | inl lt ↦ elim (cases_eq j (suc returns.e)) [
                  | inl e ↦ (record back.x { top = back_in (onward f) back.x.top; below = bs }, ap (λ z. slice_get (machine_at p limit ts z).tasks a.task) e ∙ back.later, omega (arith, high))
                  | inr ne ↦
                      let s = returns.above j (omega arith) (omega arith) in
                      let h : length s.x.below ≡ length bs + length (onward f ∷ s.more) = ap length s.below ∙ length-append bs (onward f ∷ s.more) in
                      (s.x, s.is, omega (arith, high))
                ]
                | inr ge ↦ on.stands.high j from ge
              ];
            };
            high = high;
          }

      only_these : (j : ℕ) (v : Takes p limit ts a j) → i ≤ j → ((j ≡ k) × (v.line.instr ≡ Call g)) ⊎ (suc returns.e ≤ j)
      only_these j v from = elim (cases_eq j k) [
        | inl e ↦ inl (e, called_at j e v)
        | inr ne ↦ elim (cases_lt returns.e j) [
          | inl lt ↦ inr (omega arith)
          | inr ge ↦
              let h0 : k ≤ j = none j v from in
              let s = returns.above j (omega arith) ge in
              let same : v.task ≡ s.x = same_Some v.task s.x (sym v.next.task ∙ s.is) in
              let one : length s.x.below ≡ a.height = ap (λ (t : Task). length t.below) (sym same) ∙ v.on_top in
              let two : length s.x.below ≡ length bs + length (onward f ∷ s.more) = ap length s.below ∙ length-append bs (onward f ∷ s.more) in
              let three : length (onward f ∷ s.more) ≡ suc (length s.more) = refl in
              absurd (omega (arith, high))
        ]
      ]
        where
          called_at : (j : ℕ) → j ≡ k → (v : Takes p limit ts a j) → v.line.instr ≡ Call g
          called_at j e v =
              let on' : OnTop p limit ts a bs d j f = subst (λ z. OnTop p limit ts a bs d z f) (sym e) on in
              ap (λ (l : Line). l.instr) (fetches p limit ts a bs d m w j f line on' fetch v) ∙ is_call

      pub calls_at : CallsAndGoesOn i f g
      calls_at = record {
        k = k;
        from = from;
        takes = takes_of p limit ts a bs d m w k f line on turn fetch;
        calls = is_call;
        top = on.top;
        inner = record {
          x = y;
          is = begun;
          run = on.run;
          top = ap (entry_frame g) on.top;
          below = below_y;
          depth = on.depth;
          stands = stands_from (suc k) (omega arith) (λ j from to. subst (Over (onward f)) (let h : suc k ≡ j = omega arith in h) above);
          high = long;
        };
        e = returns.e;
        number = int_in returns.back.x.top 0;
        ref = ref_in returns.back.x.top 0;
        back = record {
          takes = record {
            task = returns.back.x;
            line = returns.back.line;
            turn = returns.back.turn;
            next = record { task = returns.back.is; fetched = returns.back.at_line };
            stands = stands_from returns.e returns.from returns.above;
            on_top = ap length returns.back.below ∙ long;
          };
          ret = returns.back.ret;
          value = refl;
        };
        later = returns.from;
        to = returns.to;
        on = outer;
        only = only_these;
      }

    pub calls_and_goes_on : CallsAndGoesOn i f g
    calls_and_goes_on = let next = next_turn p limit ts a bs d m w i f le on0 in calls_at next.k next.from next.to next.on next.turn next.none
