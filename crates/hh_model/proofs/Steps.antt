-- A step by cases: the tasks and the store after it.
use Rattle.hh_model.proofs.Common.{◌≡◌, ℕ, ℤ, ◌+◌, ◌-◌, ◌%◌, ◌<◌, Bool, true, false, cond, Option, Some, None, List, [], ◌∷◌, ◌++◌, length, slice_get, slice_set, nat_lt, ◌⊎◌, inl, inr, refl, ap, sym, subst, ◌∙◌, arith, eq-eqb, is_some, cond-true, cond-false, false≢true, eqb-false, In, in_append_left, in_append_right, in_append_cases, Par, Line, ProgramText, Name, Object, Frame, TaskStatus, Running, Waiting, Ended, Joined, Task, End, Done, Trapped, Entangled, Trap, Depth, MachineState, Effect, Goes, Prints, Calls, Forks, Returns, Traps, Stops, effect, object_at, onward, ref_in, precedes, names_of_references, refs_at, registers, names_from, task_names, words_asked, runs, waits, is_over, result_in, is_running, parent_of, parents, owner_of, strand, strand_of, edge, sibling, is_left, setting, follow, child, child_ended_by, last_return, returned_to, goes_on, join_of, result_at, or_same, last_of, front_of, back_in, result_of, ended_by, depth_limit, stepped, step, can_step, fetched, entry_frame, asked_line, ended_task, frame_limit}
use Rattle.hh_model.proofs.Changes.{Change, Changes, StopsAt, effect_changes}
use Rattle.hh_model.proofs.Carried.{in_from_named, named_from_in, in_set_cases, at_in, next_name, Carries, effect_carries}
use Rattle.hh_model.proofs.Runs.{running_tells, ended_tells}
use Rattle.hh_model.proofs.ForkJoinStates.{IsForkJoinState}

pub runs_is : (s : TaskStatus) → runs s ≡ true → s ≡ Running
runs_is Running h = refl
runs_is Waiting h = absurd (false≢true h)
runs_is (Ended k n) h = absurd (false≢true h)
runs_is Joined h = absurd (false≢true h)

pub ended_is : (s : TaskStatus) (r : ℤ × Option Name) → result_in s ≡ Some r → s ≡ Ended r.0 r.1
ended_is Running r h = absurd cc
ended_is Waiting r h = absurd cc
ended_is (Ended k n) r h = ended_same k n r h
  where
    ended_same : (k : ℤ) (n : Option Name) (r : ℤ × Option Name) → result_in (Ended k n) ≡ Some r → Ended k n ≡ Ended r.0 r.1
    ended_same k n r h = let e : (k, n) ≡ r = cc in ap (λ (w : ℤ × Option Name). Ended w.0 w.1) e
ended_is Joined r h = absurd cc

pub ended_stops : (s : TaskStatus) (r : ℤ × Option Name) → result_in s ≡ Some r → runs s ≡ false
ended_stops s r e = ap runs (ended_is s r e)

-- names in registers
pub in_registers : (fs : List Frame) (f : Frame) (r : Name) → In fs f → In f.refs (Some r) → In (registers fs) r
in_registers [] f r h i = absurd h
in_registers (g ∷ fs) f r (inl e) i = in_append_left (names_of_references g.refs) (registers fs) r (named_from_in g.refs r (subst (λ (x : Frame). In x.refs (Some r)) (sym e) i))
in_registers (g ∷ fs) f r (inr h) i = in_append_right (names_of_references g.refs) (registers fs) r (in_registers fs f r h i)

pub register_cases : (f : Frame) (fs : List Frame) (r : Name) → In (registers (f ∷ fs)) r → In f.refs (Some r) ⊎ In (registers fs) r
register_cases f fs r h = elim (in_append_cases (names_of_references f.refs) (registers fs) r h) [ inl i ↦ inl (in_from_named f.refs r i) | inr i ↦ inr i ]

registers_more : (fs : List Frame) (f : Frame) (r : Name) → In (registers (fs ++ f ∷ [])) r → In (registers fs) r ⊎ In f.refs (Some r)
registers_more [] f r h = elim (register_cases f [] r h) [ inl i ↦ inr i | inr i ↦ absurd i ]
registers_more (g ∷ fs) f r h =
    elim (in_append_cases (names_of_references g.refs) (registers (fs ++ f ∷ [])) r h) [
      | inl i ↦ inl (in_append_left (names_of_references g.refs) (registers fs) r i)
      | inr i ↦ elim (registers_more fs f r i) [ inl j ↦ inl (in_append_right (names_of_references g.refs) (registers fs) r j) | inr j ↦ inr j ]
    ]

pub last_in : (fs : List Frame) (f : Frame) → last_of fs ≡ Some f → In fs f
last_in [] f e = absurd cc
last_in (g ∷ []) f e = inl cc
last_in (g ∷ h ∷ fs) f e = inr (last_in (h ∷ fs) f e)

front_registers : (fs : List Frame) (r : Name) → In (registers (front_of fs)) r → In (registers fs) r
front_registers [] r h = h
front_registers (g ∷ []) r h = absurd h
front_registers (g ∷ k ∷ fs) r h =
    elim (in_append_cases (names_of_references g.refs) (registers (front_of (k ∷ fs))) r h) [
      | inl i ↦ in_append_left (names_of_references g.refs) (registers (k ∷ fs)) r i
      | inr i ↦ in_append_right (names_of_references g.refs) (registers (k ∷ fs)) r (front_registers (k ∷ fs) r i)
    ]

pub names_run : (x : Task) (r : Name) → x.status ≡ Running → In (registers (x.top ∷ x.below)) r → In (task_names x) r
names_run x r e h = subst (λ s. In (names_from s (x.top ∷ x.below)) r) (sym e) h

pub run_names : (x : Task) (r : Name) → x.status ≡ Running → In (task_names x) r → In (registers (x.top ∷ x.below)) r
run_names x r e h = subst (λ s. In (names_from s (x.top ∷ x.below)) r) e h

-- where the names of a stepping task and those in the fields of the store come from
module _ (p : ProgramText) (m : MachineState) (t : ℕ) (x : Task) where
  abbrev pub Allocates : Type 0
  Allocates = is_some (asked_line m.field_limit x.top (fetched p x.top)) ≡ true

  abbrev pub Drawn : Name → Type 0
  Drawn r = In (task_names x) r ⊎ (((r ≡ next_name t m.store) × Allocates)
      ⊎ ((n : Name) × In (task_names x) n × In (refs_at m.store n) r × ((o : Object) × (object_at m.store r ≡ Some o) × (precedes m.edges o.strand (strand_of t x) ≡ true))))

  -- how the store changes: not at all, or as the next instruction changes it
  abbrev pub Alters : List (List Object) → Type 0
  Alters store = (store ≡ m.store) ⊎ ((line : Line) × (fetched p x.top ≡ Some line) × Change (setting m t x) x.top line.instr m.store store)

  -- why the machine ends with nothing else changed: a trap, or a stopped read
  abbrev pub Halts : End → Type 0
  Halts e =
      ((kind : Trap) × (line : ℕ) × (e ≡ Trapped kind t line))
      ⊎ ((n : Name) × (line : Line) × (fetched p x.top ≡ Some line) × (e ≡ Entangled t (owner_of m.tasks n.task)) × StopsAt (setting m t x) x.top line.instr m.store n)

  -- the outputs are as before, or have one more
  abbrev pub Grows : List ℤ → Type 0
  Grows outs = (outs ≡ m.outputs) ⊎ ((k : ℤ) × (outs ≡ m.outputs ++ k ∷ []))

  abbrev pub Put : Name → Name → Type 0
  Put n r = In (refs_at m.store n) r ⊎ ((In (task_names x) n ⊎ ((n ≡ next_name t m.store) × Allocates)) × In (task_names x) r)

module _ (p : ProgramText) (m : MachineState) (t : ℕ) (K : IsForkJoinState m) (C : MachineState → Type 0)
    (idle : C m)
    (halt : (x : Task) (e : End) → slice_get m.tasks t ≡ Some x → is_running (Some x) ≡ true → Halts p m t x e → C (ended_by m e))
    (stay : (x y : Task) (store : List (List Object)) (outs : List ℤ) → slice_get m.tasks t ≡ Some x → is_running (Some x) ≡ true
    → y.parent ≡ x.parent → y.depth ≡ x.depth → y.status ≡ x.status → y.joins ≡ x.joins
    → ((r : Name) → In (task_names y) r → Drawn p m t x r) → ((n r : Name) → In (refs_at store n) r → Put p m t x n r) → Alters p m t x store → Grows p m t x outs
    → C (record m { tasks = slice_set m.tasks t y; store = store; outputs = outs }))
    (ends : (x : Task) (parent : Option ℕ) (e : Option End) → slice_get m.tasks t ≡ Some x → is_running (Some x) ≡ true → x.parent ≡ parent
    → ((parent ≡ None) × (e ≡ Some Done)) ⊎ (is_some parent ≡ true) × (e ≡ m.end)
    → ((r : Name) → ref_in x.top 0 ≡ Some r → In (task_names x) r)
    → C (record m { tasks = slice_set m.tasks t (ended_task x (result_of x.top)); end = e }))
    (forks : (x : Task) (g h : ℕ) → slice_get m.tasks t ≡ Some x → is_running (Some x) ≡ true
    → ((line : Line) × (fetched p x.top ≡ Some line) × (line.instr ≡ Par g h))
    → ((r : Name) → In x.top.refs (Some r) → In (task_names x) r)
    → C (record m {
      tasks = slice_set m.tasks t (record x { status = Waiting; top = onward x.top }) ++ child t (x.depth + 1) g x.top ∷ child t (x.depth + 1) h x.top ∷ [];
      store = m.store ++ [] ∷ [] ∷ [];
      edges = m.edges ++ edge (strand_of t x) (strand (length m.tasks) 0) ∷ edge (strand_of t x) (strand (length m.tasks + 1) 0) ∷ [];
    }))
    (joins : (parent l : ℕ) (xp xl xr : Task) (rl rr : ℤ × Option Name)
    → slice_get m.tasks parent ≡ Some xp → slice_get m.tasks l ≡ Some xl → slice_get m.tasks (l + 1) ≡ Some xr
    → xl.parent ≡ Some parent → is_left l ≡ true → is_over xl.status ≡ false → is_over xr.status ≡ false → waits xl.status ≡ false → waits xr.status ≡ false
    → ((r : Name) → rl.1 ≡ Some r → In (task_names xl) r) → ((r : Name) → rr.1 ≡ Some r → In (task_names xr) r)
    → (((t ≡ l) × (is_left t ≡ true) × (runs xl.status ≡ true) × (runs xr.status ≡ false)) ⊎ ((t ≡ l + 1) × (is_left t ≡ false) × (runs xr.status ≡ true) × (runs xl.status ≡ false)))
    → C (join_of m parent xp l xl xr rl rr)) where
  either : (b : Bool) (m1 m2 : MachineState) → C m1 → C m2 → C (cond b m1 m2)
  either true m1 m2 a b = a
  either false m1 m2 a b = b

  same_or : {A : Type 0} (o : Option A) (go : A → MachineState) → ((x : A) → o ≡ Some x → C (go x)) → C (or_same m o go)
  same_or None go each = idle
  same_or (Some x) go each = each x refl

  module _ (x : Task) (is : slice_get m.tasks t ≡ Some x) (run : is_running (Some x) ≡ true) where
    running : x.status ≡ Running
    running = runs_is x.status run

    abbrev tells : (is_over x.status ≡ false) × (waits x.status ≡ false)
    tells = running_tells x.status run

    top_names : (r : Name) → In x.top.refs (Some r) → In (task_names x) r
    top_names r h = names_run x r running (in_registers (x.top ∷ x.below) x.top r (inl refl) h)

    below_names : (r : Name) → In (registers x.below) r → In (task_names x) r
    below_names r h = names_run x r running (in_append_right (names_of_references x.top.refs) (registers x.below) r h)

    result_names : (r : Name) → ref_in x.top 0 ≡ Some r → In (task_names x) r
    result_names r e = top_names r (at_in x.top.refs 0 r e)

    same_store : (n r : Name) → In (refs_at m.store n) r → Put p m t x n r
    same_store n r h = inl h

    -- a task that goes on with these frames
    on : (f : Frame) (fs : List Frame) (outs : List ℤ) → Grows p m t x outs → ((r : Name) → In f.refs (Some r) ⊎ In (registers fs) r → In (task_names x) r) → C (record m { tasks = slice_set m.tasks t (record x { top = f; below = fs }); outputs = outs })
    on f fs outs grows from =
        stay x (record x { top = f; below = fs }) m.store outs is run refl refl refl refl
        (λ r h. inl (from r (register_cases f fs r (run_names (record x { top = f; below = fs }) r running h)))) same_store (inl refl) grows

    goes : (line : Line) (f : Frame) (store : List (List Object)) → fetched p x.top ≡ Some line → Changes (setting m t x) x.top line.instr m.store (Goes f store)
        → Carries (setting m t x) x.top m.store (words_asked m.field_limit x.top line.instr) (Goes f store) → C (record m { tasks = slice_set m.tasks t (record x { top = f }); store = store })
    goes line f store is_line change carries =
        stay x (record x { top = f }) store m.outputs is run refl refl refl refl
        (λ r h. elim (register_cases f x.below r (run_names (record x { top = f }) r running h)) [
          | inl i ↦ elim (carries.0 r i) [
            | inl old ↦ inl (top_names r old)
            | inr more ↦ elim more [
              | inl new ↦ inr (inl (new.0, allocates new.1))
              | inr read ↦ inr (inr (read.0, top_names read.0 read.1, read.2, read.3))
            ]
          ]
          | inr i ↦ inl (below_names r i)
        ])
        (λ n r h. elim (carries.1 n r h) [
          | inl old ↦ inl old
          | inr new ↦ inr (elim (new.0) [ inl i ↦ inl (top_names n i) | inr e ↦ inr (e.0, allocates e.1) ], top_names r new.1)
        ])
        (inr (line, is_line, change)) (inl refl)
      where
        allocates : is_some (words_asked m.field_limit x.top line.instr) ≡ true → Allocates p m t x
        allocates h = ap (λ o. is_some (asked_line m.field_limit x.top o)) is_line ∙ h

    sides : (parent : ℕ) (xp z : Task) (other : ℤ × Option Name) → slice_get m.tasks parent ≡ Some xp → slice_get m.tasks (sibling t) ≡ Some z → x.parent ≡ Some parent → result_in z.status ≡ Some other
        → (b : Bool) → is_left t ≡ b → C (cond b (join_of m parent xp t x z (result_of x.top) other) (join_of m parent xp (t - 1) z x other (result_of x.top)))
    sides parent xp z other ip iz pp ended true side =
        let sib : sibling t ≡ t + 1 = cond-true (is_left t) (t + 1) (t - 1) side in
        let over = ended_tells z.status other ended in
        joins parent t xp x z (result_of x.top) other ip is (ap (slice_get m.tasks) (sym sib) ∙ iz) pp side tells.0 over.0 tells.1 over.1
        result_names (kept_result z other ended) (inl (refl, side, run, ended_stops z.status other ended))
      where
        kept_result : (z : Task) (other : ℤ × Option Name) → result_in z.status ≡ Some other → (r : Name) → other.1 ≡ Some r → In (task_names z) r
        kept_result z other e r h = subst (λ s. In (names_from s (z.top ∷ z.below)) r) (sym (ended_is z.status other e)) (named_from_in (other.1 ∷ []) r (inl h))
    sides parent xp z other ip iz pp ended false side =
        let sib : sibling t ≡ t - 1 = cond-false (is_left t) (t + 1) (t - 1) side in
        let over = ended_tells z.status other ended in
        let par : parents m.tasks t ≡ Some parent = ap parent_of is ∙ pp in
        let lt : parent < t = K.tree.low t parent par in
        let back : t - 1 + 1 ≡ t = omega arith in
        let even : t % 2 ≡ 1 → ⊥ = eqb-false (t % 2) 1 side in
        let odd : (t - 1) % 2 ≡ 1 = omega arith in
        joins parent (t - 1) xp z x other (result_of x.top) ip (ap (slice_get m.tasks) (sym sib) ∙ iz) (ap (slice_get m.tasks) back ∙ is)
        (ap parent_of (sym iz) ∙ K.tree.pairs t parent par) (eq-eqb ((t - 1) % 2) 1 odd) over.0 tells.0 over.1 tells.1
        (kept_result z other ended) result_names (inr (sym back, side, run, ended_stops z.status other ended))
      where
        kept_result : (z : Task) (other : ℤ × Option Name) → result_in z.status ≡ Some other → (r : Name) → other.1 ≡ Some r → In (task_names z) r
        kept_result z other e r h = subst (λ s. In (names_from s (z.top ∷ z.below)) r) (sym (ended_is z.status other e)) (named_from_in (other.1 ∷ []) r (inl h))

    ended_by_case : (parent : ℕ) (o : Option (ℤ × Option Name)) → x.parent ≡ Some parent → result_at (slice_get m.tasks (sibling t)) ≡ o → C (child_ended_by m t x parent (result_of x.top) o)
    ended_by_case parent None pp k = ends x (Some parent) m.end is run pp (inr (refl, refl)) result_names
    ended_by_case parent (Some other) pp k =
        same_or (slice_get m.tasks parent) _ (λ xp ip. same_or (slice_get m.tasks (sibling t)) _ (λ z iz.
        sides parent xp z other ip iz pp (ap result_at (sym iz) ∙ k) (is_left t) refl))

    last_case : (o : Option ℕ) → x.parent ≡ o → C (last_return m t x o)
    last_case None e = ends x None (Some Done) is run e (inl (refl, refl)) result_names
    last_case (Some parent) e = ended_by_case parent (result_at (slice_get m.tasks (sibling t))) e refl

    returned_case : (o : Option Frame) → last_of x.below ≡ o → C (returned_to m t x o)
    returned_case None e = last_case x.parent refl
    returned_case (Some f) e =
        on (back_in f x.top) (front_of x.below) m.outputs (inl refl) (λ r h. elim h [
          | inl i ↦ elim (in_set_cases f.refs 0 (ref_in x.top 0) (Some r) i) [
            | inl e' ↦ result_names r e'
            | inr j ↦ below_names r (in_registers x.below f r (last_in x.below f e) j)
          ]
          | inr i ↦ below_names r (front_registers x.below r i)
        ])

    follow_case : (line : Line) (e : Effect) → fetched p x.top ≡ Some line → Changes (setting m t x) x.top line.instr m.store e → Carries (setting m t x) x.top m.store (words_asked m.field_limit x.top line.instr) e → C (follow m t x line.number e)
    follow_case line (Goes f store) il keeps carries = goes line f store il keeps carries
    follow_case line (Prints k) il keeps carries = on (onward x.top) x.below (m.outputs ++ k ∷ []) (inr (k, refl)) (λ r h. elim h [ inl i ↦ top_names r i | inr i ↦ below_names r i ])
    follow_case line (Calls g) il keeps carries =
        either (nat_lt (length x.below + 1) frame_limit) _ (ended_by m (Trapped Depth t line.number))
        (on (entry_frame g x.top) (x.below ++ onward x.top ∷ []) m.outputs (inl refl) (λ r h. elim h [
          | inl i ↦ top_names r i
          | inr i ↦ elim (registers_more x.below (onward x.top) r i) [ inl j ↦ below_names r j | inr j ↦ top_names r j ]
        ])) (halt x (Trapped Depth t line.number) is run (inl (Depth, line.number, refl)))
    follow_case line (Forks g h) il keeps carries = either (nat_lt x.depth depth_limit) _ (ended_by m (Trapped Depth t line.number)) (forks x g h is run (line, il, keeps) top_names) (halt x (Trapped Depth t line.number) is run (inl (Depth, line.number, refl)))
    follow_case line Returns il keeps carries = returned_case (last_of x.below) refl
    follow_case line (Traps kind) il keeps carries = halt x (Trapped kind t line.number) is run (inl (kind, line.number, refl))
    follow_case line (Stops n) il keeps carries = halt x (Entangled t (owner_of m.tasks n.task)) is run (inr (n, line, il, refl, keeps))

    stepped_case : (o : Option Line) → fetched p x.top ≡ o → C (stepped p m t x o)
    stepped_case None e = idle
    stepped_case (Some line) e =
        follow_case line (effect (setting m t x) x.top m.store line.instr) e (effect_changes (setting m t x) x.top m.store line.instr) (effect_carries (setting m t x) x.top m.store line.instr)

  step_case : (b : Bool) → can_step m t ≡ b → C (cond b (or_same m (slice_get m.tasks t) (λ x. stepped p m t x (fetched p x.top))) m)
  step_case false e = idle
  step_case true e = same_or (slice_get m.tasks t) _ (λ x is. stepped_case x is (ap is_running (sym is) ∙ now m.end e) (fetched p x.top) refl)
    where
      now : (o : Option End) → goes_on o (is_running (slice_get m.tasks t)) ≡ true → is_running (slice_get m.tasks t) ≡ true
      now None h = h
      now (Some z) h = absurd (false≢true h)

  pub step_cases : C (step p m t)
  step_cases = step_case (can_step m t) refl
