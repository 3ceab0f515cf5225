-- A frame that forks, until both children have joined.
use Rattle.loop_nest_laws.proofs.Common.{◌≡◌, ℕ, ℤ, zero, suc, ◌+◌, ◌-◌, ◌<◌, ◌≤◌, Bool, true, false, cond, Option, Some, None, List, [], ◌∷◌, ◌++◌, length, slice_get, slice_set, nat_lt, ◌⊎◌, inl, inr, refl, ap, sym, subst, ◌∙◌, arith, cases_eq, cases_lt, cond-true, false≢true, same_Some, Par, Ret, Line, ProgramText, Name, Frame, Waiting, Task, Depth, Trapped, MachineState, effect, onward, with_int, with_ref, is_running, is_joined, is_over, is_left, sibling, parents, parent_of, result_in, result_of, setting, follow, fetched, last_of, entry_frame, ended_by, child, resumed, joined, depth_limit, strand_of, strand, edge, IsTurn, grown_at, grown_left, grown_right, step_taken, Activation, StandsAt, Takes, ReturnsBy, left_frame, right_frame}
use Rattle.loop_nest_laws.proofs.Moves.{Gives, Hands, kept, now, JoinsIn, stays, goes, calls, gives, forks, ends, resumes, joins}
use Rattle.loop_nest_laws.proofs.Turns.{machine_at, at_next, fork_join_at, move_at, MoveAt, turn_of, turn_runs, ended_over, hands_tells, OnTop, next_turn, takes_of, not_last, fetches}

last_empty : (xs : List Frame) → last_of xs ≡ None → length xs ≡ 0
last_empty [] e = refl
last_empty (x ∷ []) e = absurd cc
last_empty (x ∷ y ∷ xs) e = absurd (some_last (y ∷ xs) y xs refl e)
  where
    some_last : (ys : List Frame) (y : Frame) (xs : List Frame) → ys ≡ y ∷ xs → last_of ys ≡ None → ⊥
    some_last [] y xs e h = absurd cc
    some_last (z ∷ []) y xs e h = absurd cc
    some_last (z ∷ q ∷ zs) y xs e h = some_last (q ∷ zs) q zs refl h

module _ (p : ProgramText) (limit : ℕ) (ts : List ℕ) (a : Activation) (bs : List Frame) (d m : ℕ) (w : Takes p limit ts a m) (is_ret : w.line.instr ≡ Ret) (high : length bs ≡ a.height) where
  -- a frame to which its children returned these
  abbrev pub rejoined : Frame → ℤ × Option Name → ℤ × Option Name → Frame
  rejoined f l r = with_ref (with_ref (with_int (with_int f 0 l.0) 1 r.0) 0 l.1) 1 r.1

  -- the frame forks, and continues once both children have joined
  pub record ForksAndGoesOn (i : ℕ) (f : Frame) (g h : ℕ) : Type 0 where
    pub k : ℕ
    pub from : i ≤ k
    pub takes : Takes p limit ts a k
    pub forked : takes.line.instr ≡ Par g h
    pub top : takes.task.top ≡ f
    pub e : ℕ
    pub later : suc k ≤ e
    pub to : suc e ≤ m
    pub left_on : OnTop p limit ts (left_frame p limit ts k) [] (d + 1) (suc k) (entry_frame g f)
    pub right_on : OnTop p limit ts (right_frame p limit ts k) [] (d + 1) (suc k) (entry_frame h f)
    pub left_end : ℕ
    pub right_end : ℕ
    pub left_value : ℤ × Option Name
    pub right_value : ℤ × Option Name
    pub left_back : ReturnsBy p limit ts (left_frame p limit ts k) left_end left_value.0 left_value.1
    pub right_back : ReturnsBy p limit ts (right_frame p limit ts k) right_end right_value.0 right_value.1
    pub on : OnTop p limit ts a bs d (suc e) (rejoined (onward f) left_value right_value)
    pub only : (j : ℕ) (v : Takes p limit ts a j) → i ≤ j → ((j ≡ k) × (v.line.instr ≡ Par g h)) ⊎ (suc e ≤ j)

  module _ (i : ℕ) (f : Frame) (g h : ℕ) (line : Line) (le : i ≤ m) (on0 : OnTop p limit ts a bs d i f) (fetch : fetched p f ≡ Some line) (is_fork : line.instr ≡ Par g h) where
    not_ret : line.instr ≡ Ret → ⊥
    not_ret e = let two : Par g h ≡ Ret = sym is_fork ∙ e in absurd cc

    module _ (k : ℕ) (from : i ≤ k) (to : k ≤ m) (on : OnTop p limit ts a bs d k f) (turn : IsTurn p limit ts k a.task) (none : (j : ℕ) → Takes p limit ts a j → i ≤ j → k ≤ j) where
      abbrev x : Task
      x = on.x

      abbrev xw : Task
      xw = record x { status = Waiting; top = onward x.top }

      abbrev l : ℕ
      l = length (machine_at p limit ts k).tasks

      abbrev cl : Task
      cl = child a.task (x.depth + 1) g x.top

      abbrev cr : Task
      cr = child a.task (x.depth + 1) h x.top

      abbrev m0 : MachineState
      m0 = machine_at p limit ts k

      abbrev grown_state : MachineState
      grown_state = record m0 {
        tasks = slice_set m0.tasks a.task xw ++ cl ∷ cr ∷ [];
        store = m0.store ++ [] ∷ [] ∷ [];
        edges = m0.edges ++ edge (strand_of a.task x) (strand l 0) ∷ edge (strand_of a.task x) (strand (l + 1) 0) ∷ [];
      }

      abbrev trapped : MachineState
      trapped = ended_by m0 (Trapped Depth a.task line.number)

      further : suc k ≤ m
      further = not_last p limit ts a bs d m w k f line on fetch is_ret not_ret to

      taken : machine_at p limit ts (suc k) ≡ cond (nat_lt x.depth depth_limit) grown_state trapped
      taken =
          at_next p limit ts k a.task turn.task
          ∙ (step_taken p m0 a.task x line turn.can on.is (ap (fetched p) on.top ∙ fetch)
          ∙ ap (λ instr. follow m0 a.task x line.number (effect (setting m0 a.task x) x.top m0.store instr)) is_fork)

      by_limit : (c : Bool) → nat_lt x.depth depth_limit ≡ c → machine_at p limit ts (suc k) ≡ grown_state
      by_limit true c = taken ∙ ap (λ z. cond z grown_state trapped) c
      by_limit false c =
          absurd (ended_over p limit ts (m - suc k) (suc k) a.task (Trapped Depth a.task line.number)
          (ap (λ (q : MachineState). q.end) (taken ∙ ap (λ z. cond z grown_state trapped) c))
          (subst (λ z. IsTurn p limit ts z a.task) (let e : m ≡ m - suc k + suc k = omega (arith, further) in e) w.turn))

      grown_is : machine_at p limit ts (suc k) ≡ grown_state
      grown_is = by_limit (nat_lt x.depth depth_limit) refl

      now_at : (t : ℕ) (y : Task) → slice_get grown_state.tasks t ≡ Some y → slice_get (machine_at p limit ts (suc k)).tasks t ≡ Some y
      now_at t y e = ap (λ (q : MachineState). slice_get q.tasks t) grown_is ∙ e

      -- WAITING

      abbrev Kid : ℕ → ℕ → Type 0
      Kid c j = (y : Task) × (slice_get (machine_at p limit ts j).tasks c ≡ Some y) × (y.parent ≡ Some a.task) × (is_over y.status ≡ false)

      record Waits (j : ℕ) : Type 0 where
        waiter : slice_get (machine_at p limit ts j).tasks a.task ≡ Some xw
        left : Kid l j
        right : Kid (l + 1) j

      record Resumes (j : ℕ) : Type 0 where
        u : ℕ
        is_turn : slice_get ts j ≡ Some u
        rl : ℤ × Option Name
        rr : ℤ × Option Name
        joined : JoinsIn p (machine_at p limit ts j) u a.task xw rl rr
        same : joined.left ≡ l
        later : slice_get (machine_at p limit ts (suc j)).tasks a.task ≡ Some (resumed xw rl rr)

      at_first : Waits (suc k)
      at_first = record {
        waiter = now_at a.task xw (grown_at m0.tasks a.task x xw cl cr on.is);
        left = (cl, now_at l cl (grown_left m0.tasks a.task x xw cl cr on.is), refl, refl);
        right = (cr, now_at (l + 1) cr (grown_right m0.tasks a.task x xw cl cr on.is), refl, refl);
      }

      module _ (j : ℕ) (s : Waits j) where
        -- a child stays a child while its parent isn't resumed
        kid_step : (c : ℕ) → Kid c j → slice_get (machine_at p limit ts (suc j)).tasks a.task ≡ Some xw → Kid c (suc j)
        kid_step c kid waiter = let moved = move_at p limit ts j c kid.0 kid.1 in kid_step_by_cases moved.0 moved.1 moved.2
          where
            not_joined : (parent : ℕ) (xp : Task) (rl rr : ℤ × Option Name) → kid.0.parent ≡ Some parent → slice_get (machine_at p limit ts (suc j)).tasks parent ≡ Some (resumed xp rl rr) → ⊥
            not_joined parent xp rl rr pp ip =
                let same : parent ≡ a.task = same_Some parent a.task (sym pp ∙ kid.2) in
                let task : resumed xp rl rr ≡ xw = same_Some (resumed xp rl rr) xw (sym ip ∙ (ap (slice_get (machine_at p limit ts (suc j)).tasks) same ∙ waiter)) in
                let status : true ≡ false = ap (λ (y : Task). is_running (Some y)) task in
                false≢true (sym status)

            same_kid : (y : Task) → slice_get (machine_at p limit ts (suc j)).tasks c ≡ Some y → y.parent ≡ kid.0.parent → is_over y.status ≡ false → Kid c (suc j)
            same_kid y iy parent over = (y, iy, parent ∙ kid.2, over)

            kid_step_by_cases : (y : Task) → slice_get (machine_at p limit ts (suc j)).tasks c ≡ Some y → MoveAt p limit ts j c kid.0 y → Kid c (suc j)
            kid_step_by_cases y iy (inl same) = same_kid y iy (ap (λ (z : Task). z.parent) same) (ap (λ (z : Task). is_over z.status) same ∙ kid.3)
            kid_step_by_cases y iy (inr (u, e, stays same)) = same_kid y iy (ap (λ (z : Task). z.parent) same) (ap (λ (z : Task). is_over z.status) same ∙ kid.3)
            kid_step_by_cases y iy (inr (u, e, goes o f same)) = same_kid y iy (ap (λ (z : Task). z.parent) same) (ap (λ (z : Task). is_over z.status) same ∙ kid.3)
            kid_step_by_cases y iy (inr (u, e, calls o g same)) = same_kid y iy (ap (λ (z : Task). z.parent) same) (ap (λ (z : Task). is_over z.status) same ∙ kid.3)
            kid_step_by_cases y iy (inr (u, e, gives o f last same)) = same_kid y iy (ap (λ (z : Task). z.parent) same) (ap (λ (z : Task). is_over z.status) same ∙ kid.3)
            kid_step_by_cases y iy (inr (u, e, forks o same)) = same_kid y iy (ap (λ (z : Task). z.parent) same) (ap (λ (z : Task). is_over z.status) same)
            kid_step_by_cases y iy (inr (u, e, ends o empty same)) = same_kid y iy (ap (λ (z : Task). z.parent) same) (ap (λ (z : Task). is_over z.status) same)
            kid_step_by_cases y iy (inr (u, e, resumes rl rr q same)) = same_kid y iy (ap (λ (z : Task). z.parent) same) (ap (λ (z : Task). is_over z.status) same)
            kid_step_by_cases y iy (inr (u, e, joins parent xp rl rr r pp ip hands same)) = absurd (not_joined parent xp rl rr pp ip)

        still : slice_get (machine_at p limit ts (suc j)).tasks a.task ≡ Some xw → Waits (suc j)
        still waiter = record { waiter = waiter; left = kid_step l s.left waiter; right = kid_step (l + 1) s.right waiter }

        -- the children that join are these
        same_left : (u : ℕ) (rl rr : ℤ × Option Name) (q : JoinsIn p (machine_at p limit ts j) u a.task xw rl rr) → q.left ≡ l
        same_left u rl rr q =
            let tree = (fork_join_at p limit ts j).tree in
            let tasks = (machine_at p limit ts j).tasks in
            let par : parents tasks q.left ≡ Some a.task = ap parent_of q.il ∙ q.pl in
            let jd : joined tasks q.left ≡ false = ap is_joined q.il ∙ hands_tells p (machine_at p limit ts j) u q.left q.xl rl q.gl in
            let sib : sibling q.left ≡ q.left + 1 = cond-true (is_left q.left) (q.left + 1) (q.left - 1) q.side in
            let one = tree.brothers q.left l a.task par (ap parent_of s.left.1 ∙ s.left.2) jd (ap is_joined s.left.1 ∙ s.left.3) in
            let two = tree.brothers q.left (l + 1) a.task par (ap parent_of s.right.1 ∙ s.right.2) jd (ap is_joined s.right.1 ∙ s.right.3) in
            elim one [
              | inl e ↦ sym e
              | inr e ↦ elim two [ inl e2 ↦ absurd (omega arith) | inr e2 ↦ omega arith ]
            ]

        waits_by_move : (y : Task) → slice_get (machine_at p limit ts (suc j)).tasks a.task ≡ Some y → MoveAt p limit ts j a.task xw y → Waits (suc j) ⊎ Resumes j
        waits_by_move y iy (inl same) = inl (still (iy ∙ ap Some same))
        waits_by_move y iy (inr (u, e, stays same)) = inl (still (iy ∙ ap Some same))
        waits_by_move y iy (inr (u, e, goes o f same)) = absurd (false≢true o.run)
        waits_by_move y iy (inr (u, e, calls o g same)) = absurd (false≢true o.run)
        waits_by_move y iy (inr (u, e, gives o f last same)) = absurd (false≢true o.own.run)
        waits_by_move y iy (inr (u, e, forks o same)) = absurd (false≢true o.run)
        waits_by_move y iy (inr (u, e, ends o empty same)) = absurd (false≢true o.own.run)
        waits_by_move y iy (inr (u, e, resumes rl rr q same)) = inr (record { u = u; is_turn = e; rl = rl; rr = rr; joined = q; same = same_left u rl rr q; later = iy ∙ ap Some same })
        waits_by_move y iy (inr (u, e, joins parent xp rl rr r pp ip (kept hands) same)) = absurd cc
        waits_by_move y iy (inr (u, e, joins parent xp rl rr r pp ip (now o empty hands) same)) = absurd (false≢true o.own.run)

        wait_step : Waits (suc j) ⊎ Resumes j
        wait_step = let moved = move_at p limit ts j a.task xw s.waiter in waits_by_move moved.0 moved.1 moved.2

      record UntilJoin (j : ℕ) : Type 0 where
        e : ℕ
        begins : j ≤ e
        within : suc e ≤ m
        waits : (q : ℕ) → j ≤ q → q ≤ e → Waits q
        resumes : Resumes e

      find : (n j : ℕ) → n + j ≡ m → Waits j → UntilJoin j
      find zero j e s =
          absurd (false≢true (turn_runs p limit ts j a.task xw (subst (λ z. IsTurn p limit ts z a.task) (let q : m ≡ j = omega arith in q) w.turn) s.waiter))
      find (suc n) j e s = elim (wait_step j s) [
        | inl next ↦
            let c = find n (suc j) (omega arith) next in
            let from : suc j ≤ c.e = c.begins in
            record {
              e = c.e;
              begins = omega arith;
              within = c.within;
              waits = λ q le to. elim (cases_eq j q) [ inl same ↦ subst Waits same s | inr ne ↦ c.waits q (omega arith) to ];
              resumes = c.resumes;
            }
        | inr r ↦ record {
          e = j;
          begins = omega arith;
          within = omega arith;
          waits = λ q le to. subst Waits (let same : j ≡ q = omega arith in same) s;
          resumes = r;
        }
      ]

      until : UntilJoin (suc k)
      until = find (m - suc k) (suc k) (omega (arith, further)) at_first

      -- A CHILD

      module _ (c : ℕ) (kid_at : (j : ℕ) → Waits j → Kid c j) (c0 : Task) (is0 : slice_get (machine_at p limit ts (suc k)).tasks c ≡ Some c0) (run0 : result_in c0.status ≡ None) where
        abbrev b : Activation
        b = record { task = c; since = suc k; height = 0 }

        stands : (j : ℕ) → suc k ≤ j → j ≤ until.e → StandsAt p limit ts b j
        stands j le to = record {
          begun = le;
          high = λ q from upto. let kid = kid_at q (until.waits q from (omega arith)) in (kid.0, kid.1, omega arith);
        }

        record Ended (j : ℕ) (r : ℤ × Option Name) : Type 0 where
          when : ℕ
          behind : suc k ≤ when
          before : when < j
          back : ReturnsBy p limit ts b when r.0 r.1

        abbrev KidAt : ℕ → Type 0
        KidAt j = (y : Task) × (slice_get (machine_at p limit ts j).tasks c ≡ Some y) × ((result_in y.status ≡ None) ⊎ ((r : ℤ × Option Name) × Ended j r × (result_in y.status ≡ Some r)))

        gives_back : (j u : ℕ) (y : Task) → suc k ≤ j → j ≤ until.e → slice_get ts j ≡ Some u → slice_get (machine_at p limit ts j).tasks c ≡ Some y → Gives p (machine_at p limit ts j) u c y → last_of y.below ≡ None
            → ReturnsBy p limit ts b j (result_of y.top).0 (result_of y.top).1
        gives_back j u y le to e iy o empty = record {
          takes = record {
            task = y;
            line = o.line;
            turn = turn_of p limit ts j u c y e o.own;
            next = record { task = iy; fetched = o.at };
            stands = stands j le to;
            on_top = last_empty y.below empty;
          };
          ret = o.ret;
          value = refl;
        }

        later_ended : (j : ℕ) (r : ℤ × Option Name) → Ended j r → Ended (suc j) r
        later_ended j r q = record { when = q.when; behind = q.behind; before = let lt : q.when < j = q.before in omega arith; back = q.back }

        module _ (j : ℕ) (lo : suc k ≤ j) (hi : suc j ≤ until.e) (s : KidAt j) where
          same_status : (y : Task) → slice_get (machine_at p limit ts (suc j)).tasks c ≡ Some y → result_in y.status ≡ result_in s.0.status → KidAt (suc j)
          same_status y iy e = (y, iy, elim (s.2) [ inl h ↦ inl (e ∙ h) | inr h ↦ inr (h.0, later_ended j h.0 h.1, e ∙ h.2) ])

          by_kid : (y : Task) → slice_get (machine_at p limit ts (suc j)).tasks c ≡ Some y → MoveAt p limit ts j c s.0 y → KidAt (suc j)
          by_kid y iy (inl same) = same_status y iy (ap (λ (z : Task). result_in z.status) same)
          by_kid y iy (inr (u, e, stays same)) = same_status y iy (ap (λ (z : Task). result_in z.status) same)
          by_kid y iy (inr (u, e, goes o f same)) = same_status y iy (ap (λ (z : Task). result_in z.status) same)
          by_kid y iy (inr (u, e, calls o g same)) = same_status y iy (ap (λ (z : Task). result_in z.status) same)
          by_kid y iy (inr (u, e, gives o f last same)) = same_status y iy (ap (λ (z : Task). result_in z.status) same)
          by_kid y iy (inr (u, e, forks o same)) = (y, iy, inl (ap (λ (z : Task). result_in z.status) same))
          by_kid y iy (inr (u, e, resumes rl rr q same)) = (y, iy, inl (ap (λ (z : Task). result_in z.status) same))
          by_kid y iy (inr (u, e, ends o empty same)) = (
            y,
            iy,
            inr (
              result_of s.0.top,
              record { when = j; behind = lo; before = omega arith; back = gives_back j u s.0 lo (omega arith) e s.1 o empty },
              ap (λ (z : Task). result_in z.status) same,
            ),
          )
          by_kid y iy (inr (u, e, joins parent xp rl rr r pp ip hands same)) =
              let kid = kid_at (suc j) (until.waits (suc j) (omega arith) hi) in
              let z : kid.0 ≡ y = same_Some kid.0 y (sym kid.1 ∙ iy) in
              let over : true ≡ false = ap (λ (q : Task). is_over q.status) (sym same) ∙ (ap (λ (q : Task). is_over q.status) (sym z) ∙ kid.3) in
              absurd (false≢true (sym over))

          kid_next : KidAt (suc j)
          kid_next = let moved = move_at p limit ts j c s.0 s.1 in by_kid moved.0 moved.1 moved.2

        kid_later : (n : ℕ) → suc k + n ≤ until.e → KidAt (suc k + n)
        kid_later zero le = subst KidAt (let e : suc k ≡ suc k + zero = omega arith in e) (c0, is0, inl run0)
        kid_later (suc n) le = subst KidAt (let e : suc (suc k + n) ≡ suc k + suc n = omega arith in e) (kid_next (suc k + n) (omega arith) (omega arith) (kid_later n (omega arith)))

        kid_last : KidAt until.e
        kid_last =
            let from : suc k ≤ until.e = until.begins in
            subst KidAt (let e : suc k + (until.e - suc k) ≡ until.e = omega arith in e) (kid_later (until.e - suc k) (omega arith))

        kid_returned : (u : ℕ) (y : Task) (r : ℤ × Option Name) → slice_get ts until.e ≡ Some u → slice_get (machine_at p limit ts until.e).tasks c ≡ Some y → Hands p (machine_at p limit ts until.e) u c y r
            → (when : ℕ) × ReturnsBy p limit ts b when r.0 r.1
        kid_returned u y r e iy (now o empty same) = (until.e, subst (λ (z : ℤ × Option Name). ReturnsBy p limit ts b until.e z.0 z.1) (sym same) (gives_back until.e u y until.begins (omega arith) e iy o empty))
        kid_returned u y r e iy (kept has) =
            let s = kid_last in
            let same : s.0 ≡ y = same_Some s.0 y (sym s.1 ∙ iy) in
            let result : result_in s.0.status ≡ Some r = ap (λ (z : Task). result_in z.status) same ∙ has in
            elim (s.2) [
              | inl no_result ↦ let two : None ≡ Some r = sym no_result ∙ result in absurd cc
              | inr q ↦ (q.1.when, subst (λ (z : ℤ × Option Name). ReturnsBy p limit ts b q.1.when z.0 z.1) (same_Some q.0 r (sym q.2 ∙ result)) q.1.back)
            ]

      abbrev r0 : Resumes until.e
      r0 = until.resumes

      left_at : slice_get (machine_at p limit ts until.e).tasks l ≡ Some r0.joined.xl
      left_at = ap (slice_get (machine_at p limit ts until.e).tasks) (sym r0.same) ∙ r0.joined.il

      right_at : slice_get (machine_at p limit ts until.e).tasks (l + 1) ≡ Some r0.joined.xr
      right_at = ap (λ z. slice_get (machine_at p limit ts until.e).tasks (z + 1)) (sym r0.same) ∙ r0.joined.ir

      left_returned : (when : ℕ) × ReturnsBy p limit ts (left_frame p limit ts k) when r0.rl.0 r0.rl.1
      left_returned =
          kid_returned l (λ j s. s.left) cl (now_at l cl (grown_left m0.tasks a.task x xw cl cr on.is)) refl r0.u r0.joined.xl r0.rl r0.is_turn left_at
          (subst (λ z. Hands p (machine_at p limit ts until.e) r0.u z r0.joined.xl r0.rl) r0.same r0.joined.gl)

      right_returned : (when : ℕ) × ReturnsBy p limit ts (right_frame p limit ts k) when r0.rr.0 r0.rr.1
      right_returned =
          kid_returned (l + 1) (λ j s. s.right) cr (now_at (l + 1) cr (grown_right m0.tasks a.task x xw cl cr on.is)) refl r0.u r0.joined.xr r0.rr r0.is_turn right_at
          (subst (λ z. Hands p (machine_at p limit ts until.e) r0.u (z + 1) r0.joined.xr r0.rr) r0.same r0.joined.gr)

      first_on : (c : ℕ) (q : ℕ) → slice_get (machine_at p limit ts (suc k)).tasks c ≡ Some (child a.task (x.depth + 1) q x.top) → OnTop p limit ts (record { task = c; since = suc k; height = 0 }) [] (d + 1) (suc k) (entry_frame q f)
      first_on c q is = record {
        x = child a.task (x.depth + 1) q x.top;
        is = is;
        run = refl;
        top = ap (entry_frame q) on.top;
        below = refl;
        depth = ap (λ z. z + 1) on.depth;
        stands = record {
          begun = omega arith;
          high = λ j lo hi. (child a.task (x.depth + 1) q x.top, ap (λ z. slice_get (machine_at p limit ts z).tasks c) (let e : j ≡ suc k = omega arith in e) ∙ is, omega arith);
        };
        high = refl;
      }

      only_these : (j : ℕ) (v : Takes p limit ts a j) → i ≤ j → ((j ≡ k) × (v.line.instr ≡ Par g h)) ⊎ (suc until.e ≤ j)
      only_these j v lo = elim (cases_eq j k) [
        | inl e ↦ inl (e, forked_at j e v)
        | inr ne ↦ elim (cases_lt until.e j) [
          | inl lt ↦ inr (omega arith)
          | inr ge ↦
              let h0 : k ≤ j = none j v lo in
              let s = until.waits j (omega arith) ge in
              absurd (false≢true (turn_runs p limit ts j a.task xw v.turn s.waiter))
        ]
      ]
        where
          forked_at : (j : ℕ) → j ≡ k → (v : Takes p limit ts a j) → v.line.instr ≡ Par g h
          forked_at j e v =
              let on' : OnTop p limit ts a bs d j f = subst (λ z. OnTop p limit ts a bs d z f) (sym e) on in
              ap (λ (z : Line). z.instr) (fetches p limit ts a bs d m w j f line on' fetch v) ∙ is_fork

      outer : OnTop p limit ts a bs d (suc until.e) (rejoined (onward f) r0.rl r0.rr)
      outer =
          let same : length x.below ≡ a.height = ap length on.below ∙ high in
          record {
            x = resumed xw r0.rl r0.rr;
            is = r0.later;
            run = refl;
            top = ap (λ z. rejoined (onward z) r0.rl r0.rr) on.top;
            below = on.below;
            depth = on.depth;
            stands = record {
              begun = let h : a.since ≤ k = on.stands.begun in let h2 : suc k ≤ until.e = until.begins in omega arith;
              high = λ j lo hi. elim (cases_lt k j) [
                | inl lt ↦ elim (cases_eq j (suc until.e)) [
                  | inl e ↦ (resumed xw r0.rl r0.rr, ap (λ z. slice_get (machine_at p limit ts z).tasks a.task) e ∙ r0.later, omega arith)
                  | inr ne ↦ let s = until.waits j (omega arith) (omega arith) in (xw, s.waiter, omega arith)
                ]
                | inr ge ↦ on.stands.high j lo ge
              ];
            };
            high = high;
          }

      forks_at : ForksAndGoesOn i f g h
      forks_at = record {
        k = k;
        from = from;
        takes = takes_of p limit ts a bs d m w k f line on turn fetch;
        forked = is_fork;
        top = on.top;
        e = until.e;
        later = until.begins;
        to = until.within;
        left_on = first_on l g (now_at l cl (grown_left m0.tasks a.task x xw cl cr on.is));
        right_on = first_on (l + 1) h (now_at (l + 1) cr (grown_right m0.tasks a.task x xw cl cr on.is));
        left_end = left_returned.0;
        right_end = right_returned.0;
        left_value = r0.rl;
        right_value = r0.rr;
        left_back = left_returned.1;
        right_back = right_returned.1;
        on = outer;
        only = only_these;
      }

    pub forks_and_goes_on : ForksAndGoesOn i f g h
    forks_and_goes_on = let next = next_turn p limit ts a bs d m w i f le on0 in forks_at next.k next.from next.to next.on next.turn next.none
