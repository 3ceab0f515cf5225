-- A step of a renamed task is the renamed step.
use Rattle.renaming_laws.proofs.Common.{◌≡◌, ℕ, ℤ, ◌+◌, ◌≤◌, Bool, Option, Some, None, List, [], ◌∷◌, ◌++◌, length, map, slice_get, slice_set, inl, inr, refl, ap, sym, subst, ◌∙◌, arith, length-append, length-set, option_map, slice_get-map, In, in_append_cases, in_append_left, in_append_right, in_map, Name, Edge, Object, Frame, TaskStatus, Running, Waiting, Ended, Joined, Task, End, MachineState, object_at, row_of, with_int, with_ref, can_step, edge, ended_by, goes_on, is_running, join_of, joined_task, result_at, result_in, resumed, runs, strand, with_task, IsRenaming, name_to, ref_to, edge_to, object_to, frame_to, status_to, task_to, end_to, AreRenamed}
use Rattle.renaming_laws.proofs.Effects.{set_carried}
use Rattle.renaming_laws.proofs.Lists.{ListTo, from_map, push_to, set_to}

abbrev pub result_to : (ℕ → ℕ) → ℤ × Option Name → ℤ × Option Name
result_to f r = (r.0, ref_to f r.1)

pub kept_to : (f : ℕ → ℕ) (o : Option Task) → result_at (option_map (task_to f) o) ≡ option_map (result_to f) (result_at o)
kept_to f None = refl
kept_to f (Some x) = kept_to_by_cases x.status
  where
    kept_to_by_cases : (s : TaskStatus) → result_in (status_to f s) ≡ option_map (result_to f) (result_in s)
    kept_to_by_cases Running = refl
    kept_to_by_cases Waiting = refl
    kept_to_by_cases (Ended k r) = refl
    kept_to_by_cases Joined = refl

runs_to : (f : ℕ → ℕ) (o : Option Task) → is_running (option_map (task_to f) o) ≡ is_running o
runs_to f None = refl
runs_to f (Some x) = runs_to_by_cases x.status
  where
    runs_to_by_cases : (s : TaskStatus) → runs (status_to f s) ≡ runs s
    runs_to_by_cases Running = refl
    runs_to_by_cases Waiting = refl
    runs_to_by_cases (Ended k r) = refl
    runs_to_by_cases Joined = refl

goes_to : (f : ℕ → ℕ) (e : Option End) (b : Bool) → goes_on (option_map (end_to f) e) b ≡ goes_on e b
goes_to f None b = refl
goes_to f (Some e) b = refl

pub row_to : (f : ℕ → ℕ) (o : Option (List Object)) → row_of (option_map (map (object_to f)) o) ≡ map (object_to f) (row_of o)
row_to f None = refl
row_to f (Some row) = refl

module _ (n : ℕ) (f g : ℕ → ℕ) (R : IsRenaming n f g) (m m' : MachineState) (A : AreRenamed f m m') where
  abbrev TasksTo : List Task → List Task → Type 0
  TasksTo = ListTo f g R.back (task_to f)

  abbrev pub StoreTo : List (List Object) → List (List Object) → Type 0
  StoreTo = ListTo f g R.back (map (object_to f))

  pub can_to : (t : ℕ) → can_step m' (f t) ≡ can_step m t
  can_to t = ap (λ o. goes_on m'.end (is_running o)) (A.tasks t) ∙ (ap (goes_on m'.end) (runs_to f (slice_get m.tasks t))
      ∙ (ap (λ e. goes_on e (is_running (slice_get m.tasks t))) A.end ∙ goes_to f m.end (is_running (slice_get m.tasks t))))

  pub object_there : (k : Name) → object_at m'.store (name_to f k) ≡ option_map (object_to f) (object_at m.store k)
  object_there k =
      ap (λ w. slice_get (row_of w) k.count) (A.objects k.task)
      ∙ (ap (λ (w : List Object). slice_get w k.count) (row_to f (slice_get m.store k.task)) ∙ slice_get-map (object_to f) (row_of (slice_get m.store k.task)) k.count)

  -- THE EFFECT OF A STEP ON BOTH

  -- a task's record becomes another
  pub own : (t : ℕ) (y y' : Task) (st st' : List (List Object)) (outs outs' : List ℤ) → y' ≡ task_to f y → StoreTo st st'
      → AreRenamed f (record m { tasks = slice_set m.tasks t y; store = st; outputs = outs }) (record m' { tasks = slice_set m'.tasks (f t) y'; store = st'; outputs = outs' })
  own t y y' st st' outs outs' e objects = record {
    limit = A.limit;
    count = length-set m'.tasks (f t) y' ∙ (A.count ∙ sym (length-set m.tasks t y));
    tasks = λ u. ap (λ w. slice_get (slice_set m'.tasks (f t) w) (f u)) e ∙ set_to f g R.back (task_to f) m.tasks m'.tasks t y A.tasks u;
    objects = objects;
    edges = A.edges;
    end = A.end;
  }

  pub written : (t : ℕ) (y y' : Task) → y' ≡ task_to f y → AreRenamed f (with_task m t y) (with_task m' (f t) y')
  written t y y' e = own t y y' m.store m'.store m.outputs m'.outputs e A.objects

  pub halted : (e : End) → AreRenamed f (ended_by m e) (ended_by m' (end_to f e))
  halted e = record { limit = A.limit; count = A.count; tasks = A.tasks; objects = A.objects; edges = A.edges; end = refl }

  -- edges are added
  more_edges : (es : List Edge) (e : Edge) → (In (m'.edges ++ map (edge_to f) es) (edge_to f e) → In (m.edges ++ es) e) × (In (m.edges ++ es) e → In (m'.edges ++ map (edge_to f) es) (edge_to f e))
  more_edges es e =
      let back : (d : Edge) → edge_to g (edge_to f d) ≡ d = λ d j. record { source = record { task = R.back d.source.task j; joins = d.source.joins }; target = record { task = R.back d.target.task j; joins = d.target.joins } } in (
        (λ i. elim (in_append_cases m'.edges (map (edge_to f) es) (edge_to f e) i) [
          | inl old ↦ in_append_left m.edges es e ((A.edges e).0 old)
          | inr new ↦ in_append_right m.edges es e (from_map (edge_to f) (edge_to g) back es e new)
        ]),
        (λ i. elim (in_append_cases m.edges es e i) [
          | inl old ↦ in_append_left m'.edges (map (edge_to f) es) (edge_to f e) ((A.edges e).1 old)
          | inr new ↦ in_append_right m'.edges (map (edge_to f) es) (edge_to f e) (in_map (edge_to f) es e new)
        ]),
      )

  resumed_to : (x : Task) (l r : ℤ × Option Name) → resumed (task_to f x) (result_to f l) (result_to f r) ≡ task_to f (resumed x l r)
  resumed_to x l r =
      let base : Frame = with_int (with_int x.top 0 l.0) 1 r.0 in
      let e : with_ref (with_ref (frame_to f base) 0 (ref_to f l.1)) 1 (ref_to f r.1) ≡ frame_to f (with_ref (with_ref base 0 l.1) 1 r.1) =
      ap (λ w. with_ref w 1 (ref_to f r.1)) (set_carried f g R.back base 0 l.1) ∙ set_carried f g R.back (with_ref base 0 l.1) 1 r.1 in
      ap (λ w. record (task_to f x) { status = Running; top = w; joins = x.joins + 1 }) e

  -- two children join
  pub joins : (q l : ℕ) (xq xl xr : Task) (rl rr : ℤ × Option Name) → f (l + 1) ≡ f l + 1
      → AreRenamed f (join_of m q xq l xl xr rl rr) (join_of m' (f q) (task_to f xq) (f l) (task_to f xl) (task_to f xr) (result_to f rl) (result_to f rr))
  joins q l xq xl xr rl rr pair = record {
    limit = A.limit;
    count =
        length-set (slice_set (slice_set m'.tasks (f l) (joined_task (task_to f xl))) (f l + 1) (joined_task (task_to f xr))) (f q) (resumed (task_to f xq) (result_to f rl) (result_to f rr))
        ∙ (length-set (slice_set m'.tasks (f l) (joined_task (task_to f xl))) (f l + 1) (joined_task (task_to f xr))
        ∙ (length-set m'.tasks (f l) (joined_task (task_to f xl)) ∙ (A.count
        ∙ sym (length-set (slice_set (slice_set m.tasks l (joined_task xl)) (l + 1) (joined_task xr)) q (resumed xq rl rr)
        ∙ (length-set (slice_set m.tasks l (joined_task xl)) (l + 1) (joined_task xr) ∙ length-set m.tasks l (joined_task xl))))));
    tasks = λ u.
        ap (λ w. slice_get (slice_set (slice_set (slice_set m'.tasks (f l) (joined_task (task_to f xl))) (f l + 1) (joined_task (task_to f xr))) (f q) w) (f u)) (resumed_to xq rl rr)
        ∙ set_to f g R.back (task_to f) (slice_set (slice_set m.tasks l (joined_task xl)) (l + 1) (joined_task xr)) (slice_set (slice_set m'.tasks (f l) (joined_task (task_to f xl))) (f l + 1) (joined_task (task_to f xr))) q (resumed xq rl rr)
        (subst (λ k. TasksTo (slice_set (slice_set m.tasks l (joined_task xl)) (l + 1) (joined_task xr)) (slice_set (slice_set m'.tasks (f l) (joined_task (task_to f xl))) k (joined_task (task_to f xr)))) pair
        (set_to f g R.back (task_to f) (slice_set m.tasks l (joined_task xl)) (slice_set m'.tasks (f l) (joined_task (task_to f xl))) (l + 1) (joined_task xr)
        (set_to f g R.back (task_to f) m.tasks m'.tasks l (joined_task xl) A.tasks))) u;
    objects = A.objects;
    edges = subst (λ k. (e : Edge) →
        (In (m'.edges ++ edge (strand (f l) xl.joins) (strand (f q) (xq.joins + 1)) ∷ edge (strand k xr.joins) (strand (f q) (xq.joins + 1)) ∷ []) (edge_to f e)
        → In (m.edges ++ edge (strand l xl.joins) (strand q (xq.joins + 1)) ∷ edge (strand (l + 1) xr.joins) (strand q (xq.joins + 1)) ∷ []) e)
        × (In (m.edges ++ edge (strand l xl.joins) (strand q (xq.joins + 1)) ∷ edge (strand (l + 1) xr.joins) (strand q (xq.joins + 1)) ∷ []) e
        → In (m'.edges ++ edge (strand (f l) xl.joins) (strand (f q) (xq.joins + 1)) ∷ edge (strand k xr.joins) (strand (f q) (xq.joins + 1)) ∷ []) (edge_to f e)))
        pair (more_edges (edge (strand l xl.joins) (strand q (xq.joins + 1)) ∷ edge (strand (l + 1) xr.joins) (strand q (xq.joins + 1)) ∷ []));
    end = A.end;
  }

  -- two children start
  module _ (made : n ≤ length m.tasks) (rows : length m.store ≡ length m.tasks) (rows' : length m'.store ≡ length m'.tasks) where
    pub forks : (t : ℕ) (x y c d c' d' : Task) (a : ℕ) → c' ≡ task_to f c → d' ≡ task_to f d
        → AreRenamed f
        (record m {
          tasks = slice_set m.tasks t y ++ c ∷ d ∷ [];
          store = m.store ++ [] ∷ [] ∷ [];
          edges = m.edges ++ edge (strand t a) (strand (length m.tasks) 0) ∷ edge (strand t a) (strand (length m.tasks + 1) 0) ∷ [];
        })
        (record m' {
          tasks = slice_set m'.tasks (f t) (task_to f y) ++ c' ∷ d' ∷ [];
          store = m'.store ++ [] ∷ [] ∷ [];
          edges = m'.edges ++ edge (strand (f t) a) (strand (length m'.tasks) 0) ∷ edge (strand (f t) a) (strand (length m'.tasks + 1) 0) ∷ [];
        })
    forks t x y c d c' d' a ec ed =
        let len : length (slice_set m.tasks t y) ≡ length m.tasks = length-set m.tasks t y in
        let len' : length (slice_set m'.tasks (f t) (task_to f y)) ≡ length m'.tasks = length-set m'.tasks (f t) (task_to f y) in
        let same : length m'.tasks ≡ length m.tasks = A.count in
        let first : f (length m.tasks) ≡ length m'.tasks = R.beyond (length m.tasks) made ∙ sym same in
        let second : f (length m.tasks + 1) ≡ length m'.tasks + 1 = R.beyond (length m.tasks + 1) (omega arith) ∙ ap (λ k. k + 1) (sym same) in
        let two : List Edge = edge (strand t a) (strand (length m.tasks) 0) ∷ edge (strand t a) (strand (length m.tasks + 1) 0) ∷ [] in
        let two' : map (edge_to f) two ≡ edge (strand (f t) a) (strand (length m'.tasks) 0) ∷ edge (strand (f t) a) (strand (length m'.tasks + 1) 0) ∷ [] =
        λ j. edge (strand (f t) a) (strand (first j) 0) ∷ edge (strand (f t) a) (strand (second j) 0) ∷ [] in
        record {
          limit = A.limit;
          count = length-append (slice_set m'.tasks (f t) (task_to f y)) (c' ∷ d' ∷ []) ∙ (ap (λ k. k + 2) (len' ∙ (same ∙ sym len)) ∙ sym (length-append (slice_set m.tasks t y) (c ∷ d ∷ [])));
          tasks = λ u.
              ap (λ w. slice_get (slice_set m'.tasks (f t) (task_to f y) ++ w) (f u)) (λ j. ec j ∷ ed j ∷ [])
              ∙ push_to f g R.back (task_to f) (slice_set m.tasks t y) (slice_set m'.tasks (f t) (task_to f y)) (c ∷ d ∷ []) (len' ∙ (same ∙ sym len)) (λ k le. R.beyond k (omega (arith, len)))
              (set_to f g R.back (task_to f) m.tasks m'.tasks t y A.tasks) u;
          objects = push_to f g R.back (map (object_to f)) m.store m'.store ([] ∷ [] ∷ []) (rows' ∙ (same ∙ sym rows)) (λ k le. R.beyond k (omega (arith, rows))) A.objects;
          edges = λ e. subst (λ es. (In (m'.edges ++ es) (edge_to f e) → In (m.edges ++ two) e) × (In (m.edges ++ two) e → In (m'.edges ++ es) (edge_to f e))) two' (more_edges two e);
          end = A.end;
        }
