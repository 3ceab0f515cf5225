-- A last step that forks, ends its task or joins two children.
use Rattle.ledger_step_laws.proofs.Common.{◌≡◌, ℕ, ℤ, ◌+◌, ◌-◌, ◌%◌, ◌<◌, Bool, true, false, cond, arith, Option, Some, None, List, [], ◌∷◌, ◌++◌, length, slice_get, slice_set, ◌⊎◌, inl, inr, refl, ap, ap₂, sym, subst, ◌∙◌, is_none, is_some, nat_lt, false≢true, cases_eq, cond-true, cond-false, eqb-false, eq-eqb, got_same, got_other, got_within, same_view, view_step, got_some, Par, Ret, Line, ProgramText, Name, Object, Edge, Frame, TaskStatus, Running, Waiting, Joined, Task, Depth, Trapped, MachineState, words_asked, Effect, StepContext, effect, row_of, object_at, put_object, onward, setting, fetched, step, follow, returned_to, last_return, child_ended_by, or_same, last_of, ended_by, with_task, can_step, depth_limit, owner_of, owner_in, path_in, parents, parent_of, resumed, joined, is_running, is_waiting, is_joined, is_over, is_left, sibling, result_at, result_in, result_of, ended_task, join_of, joined_task, child, strand, strand_of, edge, runs, waits, asked, asked_by, asked_line, asked_at, waits_is, IsForkJoinState, step_is_fork_join_state, put_here, put_rows, can_going, grown_at, three_left, three_right, running_tells, ended_tells, wp, parr, ended_stops, step_taken, Ledger, heap_of, within, or_fresh, let_go, merged, emptied, forked_heap, allocated_by, allocated_in, at_fork, join_heaps, moved_on, moved_to, settled, stepped_to, task_step, has_no_caller, task_step_machine, heap_machine, heap_view, Rests, rested, StepsAlone, WritesOne, LedgerIsKnown, ForksTask, EndsTask, JoinsTasks, TasksCanJoin, LastKind, Forking, Ending, Joining, IsOfKind, IdleRest, OnlyAskersReserve, TaskIsAt, stepped_by}
use Rattle.ledger_step_laws.proofs.Ahead.{put_other, with_off}
use Rattle.ledger_step_laws.proofs.Rested.{rest_heaps, rested_worker}
use Rattle.ledger_step_laws.proofs.Entries.{fork_is, fork_is_names, fork_names, join_is, within_rested}

-- A STEP OF t CHANGES ITS TASK, AND AT MOST ONE OBJECT

module _ (k k' : Ledger) (t : ℕ) (x z : Task) (is : slice_get k.machine.tasks t ≡ Some x) (parent : z.parent ≡ x.parent) (over : is_over z.status ≡ is_over x.status) (wait : waits z.status ≡ waits x.status) where
  par_same : parents (slice_set k.machine.tasks t z) ≡ parents k.machine.tasks
  par_same = same_view parent_of k.machine.tasks t x z is parent

  joined_same : joined (slice_set k.machine.tasks t z) ≡ joined k.machine.tasks
  joined_same = same_view is_joined k.machine.tasks t x z is over

  module _ (tasks' : k'.machine.tasks ≡ slice_set k.machine.tasks t z) where
    owners : (a : ℕ) → owner_of k'.machine.tasks a ≡ owner_of k.machine.tasks a
    owners a = ap (λ ts. owner_of ts a) tasks' ∙ ap₂ (λ par jd. owner_in par jd a) par_same joined_same

    paths : (a u : ℕ) → path_in (parents k'.machine.tasks) a u ≡ path_in (parents k.machine.tasks) a u
    paths a u = ap (λ ts. path_in (parents ts) a u) tasks' ∙ ap (λ par. path_in par a u) par_same

    waits_same : (u : ℕ) → is_waiting (slice_get k'.machine.tasks u) ≡ is_waiting (slice_get k.machine.tasks u)
    waits_same u = ap (λ ts. is_waiting (slice_get ts u)) tasks' ∙ view_step is_waiting k.machine.tasks t x z is wait u

    made_same : (u : ℕ) → is_some (slice_get k'.machine.tasks u) ≡ is_some (slice_get k.machine.tasks u)
    made_same u = ap (λ ts. is_some (slice_get ts u)) tasks' ∙ view_step is_some k.machine.tasks t x z is refl u

    joins_same : (u : ℕ) → is_joined (slice_get k'.machine.tasks u) ≡ is_joined (slice_get k.machine.tasks u)
    joins_same u = ap (λ ts. is_joined (slice_get ts u)) tasks' ∙ view_step is_joined k.machine.tasks t x z is over u

    others_same : (u : ℕ) → (u ≡ t → ⊥) → slice_get k'.machine.tasks u ≡ slice_get k.machine.tasks u
    others_same u ne = ap (λ ts. slice_get ts u) tasks' ∙ got_other k.machine.tasks t u z ne

    pub alone_by : k'.machine.store ≡ k.machine.store → ((u : ℕ) → (u ≡ t → ⊥) → heap_of k' u ≡ heap_of k u) → StepsAlone k k' t
    alone_by store heaps = record {
      tree = record { made = made_same; owners = owners; paths = paths; waits = waits_same; joins = joins_same };
      tasks = others_same;
      heaps = heaps;
      rows = λ u ne. ap (λ st. length (row_of (slice_get st u))) store;
      store = λ n ne. ap (λ st. object_at st n) store;
    }

    pub writes_by : (n : Name) (y y' : Object) → k'.machine.store ≡ put_object k.machine.store n y' → ((u : ℕ) → heap_of k' u ≡ heap_of k u) → object_at k.machine.store n ≡ Some y → length y'.refs ≡ length y.refs → WritesOne k k' t n y y'
    writes_by n y y' store heaps was fields = record {
      tree = record { made = made_same; owners = owners; paths = paths; waits = waits_same; joins = joins_same };
      tasks = others_same;
      heaps = heaps;
      rows = λ u. ap (λ st. length (row_of (slice_get st u))) store ∙ put_rows k.machine.store n y' u;
      was = was;
      is = ap (λ st. object_at st n) store ∙ put_here k.machine.store n y y' was;
      others = λ m ne. ap (λ st. object_at st m) store ∙ put_other k.machine.store n y' m ne;
      fields = fields;
    }

-- A STEP OF A TASK THAT RUNS

wait_stops : (s : TaskStatus) → waits s ≡ true → runs s ≡ false
wait_stops s h = ap runs (waits_is s h)

module _ (p : ProgramText) (l : Ledger) (t : ℕ) (x : Task) (line : Line) (can : can_step l.machine t ≡ true) (I : TaskIsAt p l t x line) where
  abbrev m : MachineState
  m = l.machine

  abbrev s : StepContext
  s = setting m t x

  abbrev k : Ledger
  k = task_step p l t

  abbrev LastStepCases : Type 0
  LastStepCases = (kind : LastKind) × IsOfKind p l k t x line kind

  running : is_running (Some x) ≡ true
  running = ap runs I.runs

  pub tells : (is_over x.status ≡ false) × (waits x.status ≡ false)
  tells = running_tells x.status running

  pub going : m.end ≡ None
  going = can_going m t can

  pub taken : step p m t ≡ follow m t x line.number (effect s x.top m.store line.instr)
  taken = step_taken p m t x line can I.task I.next

  asks : asked p m t ≡ words_asked m.field_limit x.top line.instr
  asks = ap (asked_by p m) I.task ∙ (ap (λ b. cond b (asked_line m.field_limit x.top (fetched p x.top)) None) running ∙ ap (asked_line m.field_limit x.top) I.next)

  -- a step that doesn't allocate
  pub then_ : words_asked m.field_limit x.top line.instr ≡ None → (m' : MachineState) → step p m t ≡ m' → k ≡ stepped_to l t m'
  then_ none m' e =
      cond-true (can_step m t) (stepped_to (allocated_in p l t) t (step p m t)) (record l { steps = l.steps + 1 }) can
      ∙ (ap (λ o. stepped_to (allocated_by l t o) t (step p m t)) (asks ∙ none) ∙ ap (stepped_to l t) e)

  -- this is the task in m'
  moves : (m' : MachineState) (z : Task) → m'.end ≡ None → slice_get m'.tasks t ≡ Some z → stepped_to l t m' ≡ moved_on (stepped_by l m') t z.parent z.status
  moves m' z end at = ap (settled (stepped_by l m') t) end ∙ ap (moved_to (stepped_by l m') t) at

  pub goes_then : words_asked m.field_limit x.top line.instr ≡ None → (m' : MachineState) (z : Task) → step p m t ≡ m' → m'.end ≡ None → slice_get m'.tasks t ≡ Some z → z.status ≡ Running → k ≡ stepped_by l m'
  goes_then none m' z e end at st = then_ none m' e ∙ (moves m' z end at ∙ ap (moved_on (stepped_by l m') t z.parent) st)

  pub step_is : (e : Effect) → effect s x.top m.store line.instr ≡ e → step p m t ≡ follow m t x line.number e
  step_is e q = taken ∙ ap (follow m t x line.number) q

  abbrev Good : Effect → Type 0
  Good e = effect s x.top m.store line.instr ≡ e → is_none (follow m t x line.number e).end ≡ true → LastStepCases

  module _ (K : LedgerIsKnown l) (idle : IdleRest l) (spare : OnlyAskersReserve p l) where
    -- A FORK

    abbrev new_edges : List Edge
    new_edges = m.edges ++ edge (strand_of t x) (strand (length m.tasks) 0) ∷ edge (strand_of t x) (strand (length m.tasks + 1) 0) ∷ []

    let_go_forks : (g f : ℕ) (k' : Ledger) → ForksTask l k' t (length m.tasks) (length m.tasks + 1) g f x → ForksTask (rested l t) k' t (length m.tasks) (length m.tasks + 1) g f x
    let_go_forks g f k' F =
        let e : (rested l t).machine ≡ m = heap_machine l t let_go in
        record {
          task = ap (λ (w : MachineState). slice_get w.tasks t) e ∙ F.task;
          waits = F.waits;
          left = F.left;
          right = F.right;
          tasks = λ u a b c. F.tasks u a b c ∙ ap (λ (w : MachineState). slice_get w.tasks u) (sym e);
          owners = λ n. F.owners n ∙ ap (λ (w : MachineState). owner_of w.tasks n) (sym e);
          paths = λ a u b c. F.paths a u b c ∙ ap (λ (w : MachineState). path_in (parents w.tasks) a u) (sym e);
          store = λ n. F.store n ∙ ap (λ (w : MachineState). object_at w.store n) (sym e);
          rows = λ u. F.rows u ∙ ap (λ (w : MachineState). length (row_of (slice_get w.store u))) (sym e);
          unmade_left = ap (λ (w : MachineState). slice_get w.tasks (length m.tasks)) e ∙ F.unmade_left;
          unmade_right = ap (λ (w : MachineState). slice_get w.tasks (length m.tasks + 1)) e ∙ F.unmade_right;
          new_left = ap (λ (w : MachineState). length (row_of (slice_get w.store (length m.tasks)))) e ∙ F.new_left;
          new_right = ap (λ (w : MachineState). length (row_of (slice_get w.store (length m.tasks + 1)))) e ∙ F.new_right;
          lone_left = λ u q. F.lone_left u (ap (λ (w : MachineState). path_in (parents w.tasks) u (length m.tasks)) (sym e) ∙ q);
          lone_right = λ u q. F.lone_right u (ap (λ (w : MachineState). path_in (parents w.tasks) u (length m.tasks + 1)) (sym e) ∙ q);
          above_left = λ z h. elim (F.above_left z h) [ inl q ↦ inl q | inr q ↦ inr (ap (λ (w : MachineState). path_in (parents w.tasks) z t) e ∙ q) ];
          above_right = λ z h. elim (F.above_right z h) [ inl q ↦ inl q | inr q ↦ inr (ap (λ (w : MachineState). path_in (parents w.tasks) z t) e ∙ q) ];
          left_apart = F.left_apart;
          right_apart = F.right_apart;
          two = F.two;
          names = F.names;
          heap = F.heap ∙ sym (heap_view (forked_heap F.names) l t let_go (λ h. refl) t);
          heap_left = F.heap_left;
          heap_right = F.heap_right;
          heaps = λ u a b c. F.heaps u a b c ∙ ap or_fresh (sym (with_off l t u let_go a));
        }

    let_go_names : (g f : ℕ) (k' : Ledger) (F : ForksTask l k' t (length m.tasks) (length m.tasks + 1) g f x) → (let_go_forks g f k' F).names ≡ F.names
    unfolding let_go_forks
    let_go_names g f k' F = refl

    module _ (g f : ℕ) (il : line.instr ≡ Par g f) where
      abbrev waiting_task : Task
      waiting_task = record x { status = Waiting; top = onward x.top }

      abbrev mf : MachineState
      mf = record m { tasks = slice_set m.tasks t waiting_task ++ child t (x.depth + 1) g x.top ∷ child t (x.depth + 1) f x.top ∷ []; store = m.store ++ [] ∷ [] ∷ []; edges = new_edges }

      at_mf : slice_get mf.tasks t ≡ Some waiting_task
      at_mf = grown_at m.tasks t x waiting_task (child t (x.depth + 1) g x.top) (child t (x.depth + 1) f x.top) I.task

      fork_by : (b : Bool) → step p m t ≡ cond b mf (ended_by m (Trapped Depth t line.number)) → is_none (cond b mf (ended_by m (Trapped Depth t line.number))).end ≡ true → LastStepCases
      fork_by false e h = absurd (false≢true h)
      fork_by true e h =
          let none = ap (words_asked m.field_limit x.top) il in
          let is : k ≡ at_fork (stepped_by l mf) t = then_ none mf e ∙ moves mf waiting_task going at_mf in
          let fork_join : IsForkJoinState mf = subst IsForkJoinState e (step_is_fork_join_state p m t K.sound.fork_join) in
          let F : ForksTask l (at_fork (stepped_by l mf) t) t (length m.tasks) (length m.tasks + 1) g f x = fork_is l t x g f (l.steps + 1) new_edges I.task I.runs K.sound K.rows fork_join.tree.low in
          let names : within (stepped_by l mf) t ≡ within (rested l t) t = fork_names l t x g f (l.steps + 1) new_edges I.task I.runs K.sound K.rows fork_join.tree.low ∙ sym (within_rested l t t) in
          let r : (G : ForksTask (rested l t) k t (length m.tasks) (length m.tasks + 1) g f x) × (G.names ≡ within (rested l t) t) =
          subst (λ (w : Ledger). (G : ForksTask (rested l t) w t (length m.tasks) (length m.tasks + 1) g f x) × (G.names ≡ within (rested l t) t)) (sym is) (let_go_forks g f (at_fork (stepped_by l mf) t) F, let_go_names g f (at_fork (stepped_by l mf) t) F ∙ (fork_is_names l t x g f (l.steps + 1) new_edges I.task I.runs K.sound K.rows fork_join.tree.low ∙ names)) in
          (Forking, record { left = g; right = f; by = il; forks = r.0; names = r.1; outputs = ap (λ (w : MachineState). w.outputs) (task_step_machine p l t ∙ e) })

      pub fork_case : Good (effect s x.top m.store (Par g f))
      fork_case q h = fork_by (nat_lt x.depth depth_limit) (step_is (effect s x.top m.store (Par g f)) q) h

    -- AN END, AND A JOIN

    module _ (il : line.instr ≡ Ret) (lone : x.below ≡ []) (parent : ℕ) (has : x.parent ≡ Some parent) where
      none_ret : words_asked m.field_limit x.top line.instr ≡ None
      none_ret = ap (words_asked m.field_limit x.top) il

      abbrev result : ℤ × Option Name
      result = result_of x.top

      end_case : step p m t ≡ with_task m t (ended_task x (result_of x.top)) → LastStepCases
      end_case e =
          let z : Task = ended_task x result in
          let m' : MachineState = with_task m t z in
          let is : k ≡ rested (stepped_by l m') t = then_ none_ret m' e ∙ moves m' z going (got_same m.tasks t x z I.task) in
          let q : (rested l t).machine ≡ m = heap_machine l t let_go in
          let q' : (rested (stepped_by l m') t).machine ≡ m' = heap_machine (stepped_by l m') t let_go in
          let heaps : (u : ℕ) → heap_of (rested (stepped_by l m') t) u ≡ heap_of (rested l t) u = λ u. ap (λ hs. or_fresh (slice_get hs u)) (rest_heaps l (stepped_by l m') t refl) in (
            Ending,
            record {
              parent = parent;
              is = has;
              lone = lone;
              outputs = ap (λ (w : MachineState). w.outputs) (task_step_machine p l t ∙ e);
              ends = subst (λ (w : Ledger). EndsTask (rested l t) w t x) (sym is) (record {
                task = ap (λ (w : MachineState). slice_get w.tasks t) q ∙ I.task;
                runs = I.runs;
                ended = ap (λ (w : MachineState). slice_get w.tasks t) q' ∙ got_same m.tasks t x z I.task;
                alone = alone_by (rested l t) (rested (stepped_by l m') t) t x z (ap (λ (w : MachineState). slice_get w.tasks t) q ∙ I.task) refl (sym tells.0) (sym tells.1)
                    (ap (λ (w : MachineState). w.tasks) q' ∙ ap (λ (w : MachineState). slice_set w.tasks t z) (sym q)) (ap (λ (w : MachineState). w.store) q' ∙ ap (λ (w : MachineState). w.store) (sym q)) (λ u ne. heaps u);
                heap = heaps t;
                row = ap (λ (w : MachineState). length (row_of (slice_get w.store t))) (q' ∙ refl) ∙ ap (λ (w : MachineState). length (row_of (slice_get w.store t))) (sym q);
                store = λ n. ap (λ (w : MachineState). object_at w.store n) q' ∙ ap (λ (w : MachineState). object_at w.store n) (sym q);
              });
            },
          )

      -- both children have ended, the left one c
      module _ (c : ℕ) (xp xl xr : Task) (rl rr : ℤ × Option Name) (ip : slice_get m.tasks parent ≡ Some xp) (jl : slice_get m.tasks c ≡ Some xl) (jr : slice_get m.tasks (c + 1) ≡ Some xr)
          (pl : xl.parent ≡ Some parent) (left : is_left c ≡ true) (dl : is_over xl.status ≡ false) (dr : is_over xr.status ≡ false) (wl : waits xl.status ≡ false) (wr : waits xr.status ≡ false) (which : (t ≡ c) ⊎ (t ≡ c + 1)) where
        abbrev mj : MachineState
        mj = join_of m parent xp c xl xr rl rr

        abbrev kj : Ledger
        kj = join_heaps (stepped_by l mj) parent c

        low : parent < c
        low = K.sound.fork_join.tree.low c parent (ap parent_of jl ∙ pl)

        J : JoinsTasks l kj parent c (c + 1) xp rl rr
        J = join_is l parent c (l.steps + 1) xp xl xr rl rr ip jl jr pl left dl dr wl wr K.sound

        rested_machine_is : (rested l t).machine ≡ m
        rested_machine_is = heap_machine l t let_go

        np : parent ≡ t → ⊥
        np e = elim which [ inl q ↦ omega (arith, low, e, q) | inr q ↦ omega (arith, low, e, q) ]

        let_go_joins : JoinsTasks (rested l t) kj parent c (c + 1) xp rl rr
        let_go_joins = record {
          owners = λ a. subst (λ (w : MachineState). ((owner_of kj.machine.tasks a ≡ parent) × ((owner_of w.tasks a ≡ c) ⊎ (owner_of w.tasks a ≡ c + 1))) ⊎ ((owner_of kj.machine.tasks a ≡ owner_of w.tasks a) × ((owner_of w.tasks a ≡ c → ⊥) × (owner_of w.tasks a ≡ c + 1 → ⊥)))) (sym rested_machine_is) (J.owners a);
          paths = λ a u. J.paths a u ∙ ap (λ (w : MachineState). path_in (parents w.tasks) a u) (sym rested_machine_is);
          store = λ n. J.store n ∙ ap (λ (w : MachineState). object_at w.store n) (sym rested_machine_is);
          rows = λ u. J.rows u ∙ ap (λ (w : MachineState). length (row_of (slice_get w.store u))) (sym rested_machine_is);
          parent = ap (λ (w : MachineState). slice_get w.tasks parent) rested_machine_is ∙ J.parent;
          resumed = J.resumed;
          left = J.left;
          right = J.right;
          tasks = λ u a b d. J.tasks u a b d ∙ ap (λ (w : MachineState). slice_get w.tasks u) (sym rested_machine_is);
          heap =
              J.heap
              ∙ (ap (λ h. merged h (heap_of l c) (heap_of l (c + 1))) (ap or_fresh (sym (with_off l t parent let_go np)))
              ∙ (sym (heap_view (λ h. merged (heap_of (rested l t) parent) h (heap_of l (c + 1))) l t let_go (λ h. refl) c)
              ∙ sym (heap_view (λ h. merged (heap_of (rested l t) parent) (heap_of (rested l t) c) h) l t let_go (λ h. refl) (c + 1))));
          heap_left = J.heap_left ∙ sym (heap_view emptied l t let_go (λ h. refl) c);
          heap_right = J.heap_right ∙ sym (heap_view emptied l t let_go (λ h. refl) (c + 1));
          heaps = λ u a b d. J.heaps u a b d ∙ ap or_fresh (sym (with_off l t u let_go (λ e. elim which [ inl q ↦ b (e ∙ q) | inr q ↦ d (e ∙ q) ])));
        }

        -- each task keeps its parent
        kin : (u : ℕ) → parents mj.tasks u ≡ parents m.tasks u
        kin u =
            let one : slice_get (slice_set m.tasks c (joined_task xl)) (c + 1) ≡ Some xr = got_other m.tasks c (c + 1) (joined_task xl) (λ q. omega (arith, q)) ∙ jr in
            let two : slice_get (slice_set (slice_set m.tasks c (joined_task xl)) (c + 1) (joined_task xr)) parent ≡ Some xp =
            got_other (slice_set m.tasks c (joined_task xl)) (c + 1) parent (joined_task xr) (λ q. omega (arith, low, q)) ∙ (got_other m.tasks c parent (joined_task xl) (λ q. omega (arith, low, q)) ∙ ip) in
            view_step parent_of (slice_set (slice_set m.tasks c (joined_task xl)) (c + 1) (joined_task xr)) parent xp (resumed xp rl rr) two refl u
            ∙ (view_step parent_of (slice_set m.tasks c (joined_task xl)) (c + 1) xr (joined_task xr) one refl u ∙ view_step parent_of m.tasks c xl (joined_task xl) jl refl u)

        wait_p : waits xp.status ≡ true
        wait_p = ap is_waiting (sym ip) ∙ wp m.tasks m.edges c parent xl xr xp rl rr jl jr ip pl left dl dr wl wr K.sound.fork_join.tree

        at_rest : (u : ℕ) (y : Task) → slice_get m.tasks u ≡ Some y → (u ≡ t) ⊎ (runs y.status ≡ false) → Rests (rested l t) u
        at_rest u y is which = elim (cases_eq u t) [
          | inl e ↦ ap (λ j. (heap_of (rested l t) j).worker) e ∙ rested_worker l t
          | inr ne ↦ elim which [
            | inl e ↦ absurd (ne e)
            | inr stopped ↦ ap (λ o. (or_fresh o).worker) (with_off l t u let_go ne) ∙ idle u (ap is_running is ∙ stopped)
          ]
        ]

        -- no chunk is reserved for a task that doesn't allocate
        none_spare : (u : ℕ) (y : Task) → slice_get m.tasks u ≡ Some y → (u ≡ t) ⊎ (runs y.status ≡ false) → (heap_of (rested l t) u).reserved ≡ 0
        none_spare u y is which = heap_view (λ h. h.reserved) l t let_go (λ h. refl) u ∙ spare u (elim which [
          | inl e ↦ ap (asked p m) e ∙ (asked_at p m t x I.task running ∙ (ap (asked_line m.field_limit x.top) I.next ∙ none_ret))
          | inr stopped ↦ ap (asked_by p m) is ∙ ap (λ b. cond b (asked_line m.field_limit y.top (fetched p y.top)) None) stopped
        ])

        can_join : (c ≡ t) ⊎ (runs xl.status ≡ false) → (c + 1 ≡ t) ⊎ (runs xr.status ≡ false) → TasksCanJoin (rested l t) parent c (c + 1) xp
        can_join hl hr = record {
          left = ap (λ (w : MachineState). parents w.tasks c) rested_machine_is ∙ (ap parent_of jl ∙ pl);
          right = ap (λ (w : MachineState). parents w.tasks (c + 1)) rested_machine_is ∙ parr m.tasks m.edges c parent xl xr xp rl rr jl jr ip pl left dl dr wl wr K.sound.fork_join.tree;
          two = λ e. omega (arith, e);
          waits = waits_is xp.status wait_p;
          left_idle = ap (λ (w : MachineState). is_waiting (slice_get w.tasks c)) rested_machine_is ∙ (ap is_waiting jl ∙ wl);
          right_idle = ap (λ (w : MachineState). is_waiting (slice_get w.tasks (c + 1))) rested_machine_is ∙ (ap is_waiting jr ∙ wr);
          left_live = ap (λ (w : MachineState). is_joined (slice_get w.tasks c)) rested_machine_is ∙ (ap is_joined jl ∙ dl);
          right_live = ap (λ (w : MachineState). is_joined (slice_get w.tasks (c + 1))) rested_machine_is ∙ (ap is_joined jr ∙ dr);
          rests = at_rest parent xp ip (inr (wait_stops xp.status wait_p));
          left_rests = at_rest c xl jl hl;
          right_rests = at_rest (c + 1) xr jr hr;
          left_spares = none_spare c xl jl hl;
          right_spares = none_spare (c + 1) xr jr hr;
        }

        -- the step's accounts
        join_then : (z : Task) → step p m t ≡ mj → slice_get mj.tasks t ≡ Some z → z.parent ≡ Some parent → z.status ≡ Joined → cond (is_left t) t (t - 1) ≡ c → k ≡ kj
        join_then z e at zp st side =
            then_ none_ret mj e ∙ (moves mj z going at ∙ (ap₂ (moved_on (stepped_by l mj) t) zp st ∙ ap (join_heaps (stepped_by l mj) parent) side))

        join_case : (z : Task) → step p m t ≡ mj → slice_get mj.tasks t ≡ Some z → z.parent ≡ Some parent → z.status ≡ Joined → cond (is_left t) t (t - 1) ≡ c → (c ≡ t) ⊎ (runs xl.status ≡ false) → (c + 1 ≡ t) ⊎ (runs xr.status ≡ false)
            → ((t ≡ c) × (rl ≡ result_of x.top) × (result_at (slice_get m.tasks (c + 1)) ≡ Some rr)) ⊎ ((t ≡ c + 1) × (rr ≡ result_of x.top) × (result_at (slice_get m.tasks c) ≡ Some rl)) → LastStepCases
        join_case z e at zp st side hl hr results = (
          Joining,
          record {
            parent = parent;
            left = c;
            above = xp;
            left_result = rl;
            right_result = rr;
            lone = lone;
            joins = subst (λ (w : Ledger). JoinsTasks (rested l t) w parent c (c + 1) xp rl rr) (sym (join_then z e at zp st side)) let_go_joins;
            can = can_join hl hr;
            parents = λ u. ap (λ (w : MachineState). parents w.tasks u) (task_step_machine p l t ∙ e) ∙ kin u;
            outputs = ap (λ (w : MachineState). w.outputs) (task_step_machine p l t ∙ e);
            results = results;
          },
        )

      sides : (xp z : Task) (other : ℤ × Option Name) → slice_get m.tasks parent ≡ Some xp → slice_get m.tasks (sibling t) ≡ Some z → result_in z.status ≡ Some other
          → (b : Bool) → is_left t ≡ b → step p m t ≡ cond b (join_of m parent xp t x z (result_of x.top) other) (join_of m parent xp (t - 1) z x other (result_of x.top)) → LastStepCases
      sides xp z other ip iz ended true side e =
          let sib : sibling t ≡ t + 1 = cond-true (is_left t) (t + 1) (t - 1) side in
          let over = ended_tells z.status other ended in
          let jr : slice_get m.tasks (t + 1) ≡ Some z = ap (slice_get m.tasks) (sym sib) ∙ iz in
          join_case t xp x z result other ip I.task jr has side tells.0 over.0 tells.1 over.1 (inl refl) (joined_task x) e
          (three_left m.tasks t parent x z xp (joined_task x) (joined_task z) _ I.task jr ip (K.sound.fork_join.tree.low t parent (ap parent_of I.task ∙ has))) has refl (cond-true (is_left t) t (t - 1) side)
          (inl refl) (inr (ended_stops z.status other ended)) (inl (refl, refl, ap result_at jr ∙ ended))
      sides xp z other ip iz ended false side e =
          let sib : sibling t ≡ t - 1 = cond-false (is_left t) (t + 1) (t - 1) side in
          let over = ended_tells z.status other ended in
          let par : parents m.tasks t ≡ Some parent = ap parent_of I.task ∙ has in
          let lt : parent < t = K.sound.fork_join.tree.low t parent par in
          let back : t - 1 + 1 ≡ t = omega arith in
          let even : t % 2 ≡ 1 → ⊥ = eqb-false (t % 2) 1 side in
          let odd : (t - 1) % 2 ≡ 1 = omega arith in
          let jl : slice_get m.tasks (t - 1) ≡ Some z = ap (slice_get m.tasks) (sym sib) ∙ iz in
          let jr : slice_get m.tasks (t - 1 + 1) ≡ Some x = ap (slice_get m.tasks) back ∙ I.task in
          let pz : z.parent ≡ Some parent = ap parent_of (sym iz) ∙ K.sound.fork_join.tree.pairs t parent par in
          let low' : parent < t - 1 = K.sound.fork_join.tree.low (t - 1) parent (ap parent_of jl ∙ pz) in
          join_case (t - 1) xp z x other result ip jl jr pz (eq-eqb ((t - 1) % 2) 1 odd) over.0 tells.0 over.1 tells.1 (inr (sym back)) (joined_task x) e
          (ap (slice_get (join_of m parent xp (t - 1) z x other result).tasks) (sym back) ∙ three_right m.tasks (t - 1) parent z x xp (joined_task z) (joined_task x) _ jl jr ip low') has refl (cond-false (is_left t) t (t - 1) side)
          (inr (ended_stops z.status other ended)) (inl back) (inr (sym back, refl, ap result_at jl ∙ ended))

      ended_case : (o : Option (ℤ × Option Name)) → result_at (slice_get m.tasks (sibling t)) ≡ o → step p m t ≡ child_ended_by m t x parent (result_of x.top) o → LastStepCases
      ended_case None q e = end_case e
      ended_case (Some other) q e =
          let xp = got_some m.tasks parent (let lt : parent < t = K.sound.fork_join.tree.low t parent (ap parent_of I.task ∙ has) in let in_ : t < length m.tasks = got_within m.tasks t x I.task in omega (arith, lt, in_)) in
          ended_case_by_cases (slice_get m.tasks (sibling t)) refl xp.0 xp.1
        where
          ended_case_by_cases : (y : Option Task) → slice_get m.tasks (sibling t) ≡ y → (xp : Task) → slice_get m.tasks parent ≡ Some xp → LastStepCases
          ended_case_by_cases None iz xp ip = absurd (none_kept (sym (ap result_at iz) ∙ q))
            where
              none_kept : {r : ℤ × Option Name} → ◌≡◌ {A = Option (ℤ × Option Name)} None (Some r) → ⊥
              none_kept e = absurd cc
          ended_case_by_cases (Some z) iz xp ip =
              sides xp z other ip iz (ap result_at (sym iz) ∙ q) (is_left t) refl
              (e ∙ (ap (λ o. or_same m o (λ w. or_same m (slice_get m.tasks (sibling t)) (λ y. cond (is_left t) (join_of m parent w t x y result other) (join_of m parent w (t - 1) y x other result)))) ip
              ∙ ap (λ o. or_same m o (λ y. cond (is_left t) (join_of m parent xp t x y result other) (join_of m parent xp (t - 1) y x other result))) iz))

    pub ret_case : line.instr ≡ Ret → (fs : List Frame) → x.below ≡ fs → has_no_caller fs ≡ true → Good (effect s x.top m.store Ret)
    ret_case il [] lone h q end =
        let e : step p m t ≡ last_return m t x x.parent = step_is (effect s x.top m.store Ret) q ∙ ap (λ fs. returned_to m t x (last_of fs)) lone in
        ret_case_by_cases x.parent refl e (sym (ap (λ fs. is_none (returned_to m t x (last_of fs)).end) lone) ∙ end)
      where
        ret_case_by_cases : (o : Option ℕ) → x.parent ≡ o → step p m t ≡ last_return m t x o → is_none (last_return m t x o).end ≡ true → LastStepCases
        ret_case_by_cases None has e h = absurd (false≢true h)
        ret_case_by_cases (Some parent) has e h = ended_case il lone parent has (result_at (slice_get m.tasks (sibling t))) refl e
    ret_case il (f ∷ fs) lone h q end = absurd (false≢true h)
