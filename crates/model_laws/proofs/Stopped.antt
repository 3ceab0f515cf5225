-- Which reads are stopped.
use Rattle.model_laws.proofs.Common.{◌≡◌, ℕ, Bool, true, false, cond, Option, Some, None, List, length, slice_get, slice_set, ◌⊎◌, inl, inr, refl, ap, ap₂, sym, ◌∙◌, is_some, option_flatten, both_ways, same_Some, Instr, Getr, ProgramText, Name, Object, Frame, Task, Nil, Range, End, Done, Trapped, Entangled, MachineState, Effect, Goes, Stops, StepContext, effect, int_in, object_at, onward, or_trap, place_in, read_effect, ref_in, with_object, with_ref, Precedes, precedes, can_step, ended_by, ended_task, follow, goes_on, is_running, joined, owner_of, parents, result_of, run, setting, start, step, strand_of, IsForkJoinState, waiting, joins_in, IsDecided, IsRead, IsStopped, ReadsAreDecided, ReadsNext, StopsRead, run_is_fork_join_state, start_is_fork_join_state, Halts, step_taken, owner_not_joined, none_some}

-- what a read of a reference field does
read_is : (s : StepContext) (f : Frame) (store : List (List Object)) (instr : Instr) (d o k : ℕ) (source n : Name) (x : Object) (at : ℕ) → instr ≡ Getr d o k → ref_in f o ≡ Some source → object_at store source ≡ Some x
    → place_in (length x.refs) (int_in f k) ≡ Some at → slice_get x.refs at ≡ Some (Some n) → effect s f store instr ≡ read_effect s f store d (Some n)
read_is s f store instr d o k source n x at getr named is place field =
    ap (effect s f store) getr
    ∙ (ap (λ r. with_object store r (λ j y. or_trap Range (place_in (length y.refs) (int_in f k)) (λ i. read_effect s f store d (option_flatten (slice_get y.refs i))))) named
    ∙ (ap (λ w. or_trap Nil w (λ y. or_trap Range (place_in (length y.refs) (int_in f k)) (λ i. read_effect s f store d (option_flatten (slice_get y.refs i))))) is
    ∙ (ap (λ w. or_trap Range w (λ i. read_effect s f store d (option_flatten (slice_get x.refs i)))) place
    ∙ ap (λ w. read_effect s f store d (option_flatten w)) field)))

module _ (p : ProgramText) (m : MachineState) (K : IsForkJoinState m) (going : m.end ≡ None) (t : ℕ) (x : Task) (d : ℕ) (n : Name) (o : Object) (R : ReadsNext p m t x d n o) where
  can : can_step m t ≡ true
  can = ap₂ (λ e y. goes_on e (is_running y)) going R.next.task ∙ R.running

  abbrev read_by_test : Bool → Effect
  read_by_test b = cond b (Goes (onward (with_ref x.top d (Some n))) m.store) (Stops n)

  reads : effect (setting m t x) x.top m.store R.line.instr ≡ read_by_test (precedes m.edges o.strand (strand_of t x))
  reads =
      read_is (setting m t x) x.top m.store R.line.instr d R.register R.index R.source n R.read R.at R.instr R.named R.is R.place R.field
      ∙ ap (λ w. or_trap Nil w (λ q. read_by_test (precedes m.edges q.strand (strand_of t x)))) R.object

  takes : (b : Bool) → precedes m.edges o.strand (strand_of t x) ≡ b → step p m t ≡ follow m t x R.line.number (read_by_test b)
  takes b e = step_taken p m t x R.line can R.next.task R.next.fetched ∙ ap (follow m t x R.line.number) (reads ∙ ap read_by_test e)

  not_both : IsRead p m t x d n → IsStopped p m t n → ⊥
  not_both read stopped = absurd (none_ends (sym going ∙ ap (λ (k : MachineState). k.end) (sym read ∙ stopped)))
    where
      none_ends : None ≡ Some (Entangled t (owner_of m.tasks n.task)) → ⊥
      none_ends e = cc

  live : joined m.tasks (owner_of m.tasks n.task) ≡ false
  live = owner_not_joined (length m.tasks) (parents m.tasks) (joined m.tasks) (waiting m.tasks) (joins_in m.tasks) m.edges K.tree n.task

  decided_by : (b : Bool) → precedes m.edges o.strand (strand_of t x) ≡ b → IsDecided p m t x d n o
  decided_by true e =
      let w : Precedes m.edges o.strand (strand_of t x) = (K.tree.right o.strand (strand_of t x)).0 e in
      let read : IsRead p m t x d n = takes true e in
      record {
        goes = ((λ q. read), (λ q. w));
        stops = ((λ q. absurd (q w)), (λ q. absurd (not_both read q)));
        live = live;
      }
  decided_by false e =
      let none : Precedes m.edges o.strand (strand_of t x) → ⊥ = λ w. both_ways (precedes m.edges o.strand (strand_of t x)) e ((K.tree.right o.strand (strand_of t x)).1 w) in
      let stopped : IsStopped p m t n = takes false e in
      record {
        goes = ((λ w. absurd (none w)), (λ q. absurd (not_both q stopped)));
        stops = ((λ q. stopped), (λ q. none));
        live = live;
      }

  pub decided : IsDecided p m t x d n o
  decided = decided_by (precedes m.edges o.strand (strand_of t x)) refl

pub reads_are_decided : ReadsAreDecided
reads_are_decided p limit ts t x d n o going R = decided p (run p limit ts) (run_is_fork_join_state p (start p limit) ts (start_is_fork_join_state p limit)) going t x d n o R

-- STOPS

module _ (p : ProgramText) (m : MachineState) (t : ℕ) (K : IsForkJoinState m) (going : m.end ≡ None) where
  abbrev Stopped : MachineState → Type 0
  Stopped m' = (reader owner : ℕ) → m'.end ≡ Some (Entangled reader owner) → (reader ≡ t) × StopsRead p m t owner

  stopped_unchanged : (m' : MachineState) → m'.end ≡ m.end → Stopped m'
  stopped_unchanged m' e reader owner h = none_some (sym going ∙ (sym e ∙ h))

  halts : (x : Task) (e : End) → slice_get m.tasks t ≡ Some x → is_running (Some x) ≡ true → Halts p m t x e → Stopped (ended_by m e)
  halts x e is run' (inl trap) reader owner h = absurd (trapped trap.2 (same_Some e (Entangled reader owner) h))
    where
      trapped : e ≡ Trapped trap.0 t trap.1 → e ≡ Entangled reader owner → ⊥
      trapped a b = cc
  halts x e is run' (inr stop) reader owner h =
      let same : Entangled t (owner_of m.tasks stop.0.task) ≡ Entangled reader owner = sym stop.3 ∙ same_Some e (Entangled reader owner) h in
      let r : reader ≡ t = cc in
      let o : owner ≡ owner_of m.tasks stop.0.task = cc in (
        r,
        record {
          task = x;
          register = stop.4.read.target;
          name = stop.0;
          object = stop.4.object;
          reads = record {
            running = run';
            line = stop.1;
            next = record { task = is; fetched = stop.2 };
            register = stop.4.read.register;
            index = stop.4.read.index;
            instr = stop.4.read.instr_is;
            source = stop.4.source;
            named = stop.4.read.named;
            read = stop.4.read.object;
            is = stop.4.read.is;
            at = stop.4.read.at;
            place = stop.4.read.place;
            field = stop.4.read.got;
            object = stop.4.is;
          };
          apart = λ w. both_ways (precedes m.edges stop.4.object.strand (strand_of t x)) stop.4.apart ((K.tree.right stop.4.object.strand (strand_of t x)).1 w);
          owns = o;
        },
      )

  ends : (x : Task) (parent : Option ℕ) (e : Option End) → slice_get m.tasks t ≡ Some x → is_running (Some x) ≡ true → x.parent ≡ parent
      → ((parent ≡ None) × (e ≡ Some Done)) ⊎ (is_some parent ≡ true) × (e ≡ m.end)
      → Stopped (record m { tasks = slice_set m.tasks t (ended_task x (result_of x.top)); end = e })
  ends x parent e is run' pp (inl root) reader owner h = absurd (done (sym root.1 ∙ h))
    where
      done : Some Done ≡ Some (Entangled reader owner) → ⊥
      done a = cc
  ends x parent e is run' pp (inr child) reader owner h = stopped_unchanged (record m { tasks = slice_set m.tasks t (ended_task x (result_of x.top)); end = e }) child.1 reader owner h
